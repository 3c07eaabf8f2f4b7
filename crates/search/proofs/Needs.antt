-- What the search needs of the closure and of the prices that it runs on, to find the cheapest of some lists: the
-- models.
use Prim.Native.Nat.{ℕ, ◌≤◌, ◌<◌}
use mathlib.Core.Path.{◌≡◌}
use mathlib.Core.Bool.{Bool, true, false, cond}
use mathlib.Core.List.{List, [], ◌∷◌}
use lib.ListN.{length, get_or}
use Rattle.circuit.specs.Logic.{Literal}
use Rattle.closure.specs.Computed.{unknown, known, Marks, mark_at, is_known, Progress, clash, marked}
use Rattle.search.specs.TableSearch.{bytes_of}
use Rattle.search.proofs.Agree.{AgreesAll}

-- `Fine` are the literals that a search of the steps 0 .. e - 1 may choose, one after the other.
pub record ClosureIsRight (e : ℕ) (Model : List ℕ → Type 0) (close : List (Literal ℕ)
    → Progress) (Fine : List (Literal ℕ) → Type 0) : Type 0 where
  -- a model has e entries
  pub model_size : (list : List ℕ) → Model list → length list ≡ e
  -- each 0 or 1
  pub model_bits : (list : List ℕ) → Model list → (j : ℕ) → j < length list → get_or list j 0 ≤ 1
  -- no literals are fine
  pub fine_none : Fine []
  -- fine literals with one more, of a step not yet known, are fine
  pub fine_more : {P : List (Literal ℕ)} {m : Marks} {b : Bool} → Fine P → close P ≡ marked m b
      → (j : ℕ) (s : Bool) → j < e → mark_at m j ≡ unknown → Fine (record { sign = s; var = j } ∷ P)
  -- no model agrees with literals that clash
  pub clash_sound : {P : List (Literal ℕ)} → Fine P → close P ≡ clash → (list : List ℕ) → Model list
      → ¬ AgreesAll list P
  -- a model that agrees with literals that do not clash has the bits that are known
  pub mark_sound : {P : List (Literal ℕ)} {m : Marks} {b : Bool} → Fine P → close P ≡ marked m b
      → (list : List ℕ) → Model list → AgreesAll list P
      → (j : ℕ) (x : Bool) → j < e → mark_at m j ≡ known x → get_or list j 0 ≡ cond x 1 0
  -- what is known stays known with a literal more
  pub grows : {P : List (Literal ℕ)} {l : Literal ℕ} {m m' : Marks} {b b' : Bool} → Fine P → Fine (l ∷ P)
      → close P ≡ marked m b → close (l ∷ P) ≡ marked m' b'
      → (j : ℕ) (x : Bool) → j < e → mark_at m j ≡ known x → mark_at m' j ≡ known x
  -- and that literal is known
  pub keeps : {P : List (Literal ℕ)} {l : Literal ℕ} {m : Marks} {b : Bool} → Fine (l ∷ P)
      → close (l ∷ P) ≡ marked m b → mark_at m l.var ≡ known l.sign
  -- where every step is known, the list of the marks is a model
  pub complete : {P : List (Literal ℕ)} {m : Marks} {b : Bool} → Fine P → close P ≡ marked m b
      → ((j : ℕ) → j < e → is_known (mark_at m j) ≡ true) → Model (bytes_of e m)

-- `price` is what marks cost, and `cost` what a list does.
pub record PriceIsRight (e : ℕ) (price : Marks → ℕ) (cost : List ℕ → ℕ) : Type 0 where
  -- a list that strikes each step that is known struck costs no less
  pub least : (m : Marks) (list : List ℕ) → ((j : ℕ) → j < e → mark_at m j ≡ known false → get_or list j 0 ≡ 0)
      → price m ≤ cost list
  -- where every step is known, the list of the marks costs what they do
  pub exact : (m : Marks) → ((j : ℕ) → j < e → is_known (mark_at m j) ≡ true) → price m ≡ cost (bytes_of e m)
