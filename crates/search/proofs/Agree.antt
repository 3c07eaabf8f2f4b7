-- The list that marks give, and the lists that agree with literals.
use Prim.Native.Nat.{ℕ, zero, suc, ◌≤◌, ◌<◌}
use mathlib.Core.Path.{◌≡◌, refl, ap, ◌∙◌}
use mathlib.Core.Logic.{⊎_elim}
use mathlib.Core.Bool.{true, false, cond}
use mathlib.Core.List.Memᴰ
use mathlib.Core.List.{List, [], ◌∷◌, map, Memᴰ}
use native.Mathlib.Omega.{arith}
use lib.ListN.{length, get_or}
use Rattle.ctl.specs.Range.{tabulate}
use Rattle.ctl.proofs.Tabulate.{length_tabulate, get_d_tabulate}
use Rattle.circuit.specs.Logic.{Literal}
use Rattle.closure.specs.Computed.{Mark, unknown, known, Marks, mark_at}
use Rattle.search.specs.TableSearch.{bit_of, bytes_of}

-- ---- the list of marks

map_tabulate : {A B : Type 0} (f : A → B) (n : ℕ) (g : ℕ → A) → map f (tabulate n g) ≡ tabulate n (λ k. f (g k))
unfolding tabulate
map_tabulate f zero g = refl
map_tabulate f (suc n) g = ap (λ l. f (g zero) ∷ l) (map_tabulate f n (λ k. g (suc k)))

-- its bytes are 0 and 1
pub bit_le : (x : Mark) → bit_of x ≤ 1
bit_le unknown = omega arith
bit_le (known true) = omega arith
bit_le (known false) = omega arith

-- the list has e bytes
pub length-bytes_of : (e : ℕ) (m : Marks) → length (bytes_of e m) ≡ e
length-bytes_of e m = ap length (map_tabulate _ e (λ k. k)) ∙ length_tabulate e _

-- its byte at a step is that of the step's mark
pub get_d_bytes_of : (e : ℕ) (m : Marks) (j : ℕ) → j < e → get_or (bytes_of e m) j 0 ≡ bit_of (mark_at m j)
get_d_bytes_of e m j h = ap (λ l. get_or l j 0) (map_tabulate _ e (λ k. k)) ∙ get_d_tabulate e _ j 0 h

-- ---- agreement

-- a list keeps or strikes the step of a literal as the literal says
abbrev pub AgreesWith : List ℕ → Literal ℕ → Type 0
AgreesWith list l = get_or list l.var 0 ≡ cond l.sign 1 0

-- it does so for all literals of P
abbrev pub AgreesAll : List ℕ → List (Literal ℕ) → Type 0
AgreesAll list P = (l : Literal ℕ) → Memᴰ l P → AgreesWith list l

-- anything holds of each of no literals
pub member_none : (Q : Literal ℕ → Type 0) (l : Literal ℕ) → Memᴰ l [] → Q l
member_none Q l i = absurd (Memᴰ.not-nil i)

-- what holds of a literal and of each of P holds of each of both
pub member_more : (Q : Literal ℕ → Type 0) {k : Literal ℕ} {P : List (Literal ℕ)} → Q k
    → ((l : Literal ℕ) → Memᴰ l P → Q l)
    → (l : Literal ℕ) → Memᴰ l (k ∷ P) → Q l
member_more Q one rest l i = ⊎_elim (λ e. rw e one) (rest l) (Memᴰ.cases_cons i)

-- the models that agree with the literals P
abbrev pub Among : (List ℕ → Type 0) → List (Literal ℕ) → List ℕ → Type 0
Among Model P list = Model list × AgreesAll list P
