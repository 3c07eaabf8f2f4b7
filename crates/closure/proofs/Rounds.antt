-- Rounds over the clauses: what each new mark keeps is kept to the end.
use Prim.Native.Nat.{ℕ, zero, suc}
use mathlib.Core.Path.{◌≡◌, refl}
use mathlib.Core.Bool.{Bool, true, false}
use mathlib.Core.List.{List, [], ◌∷◌, Memᴰ}
use Rattle.circuit.specs.Logic.{Literal}
use Rattle.closure.specs.Computed.{
  Marks,
  unknown,
  mark_at,
  holding,
  open_in,
  Progress,
  clash,
  marked,
  take_clause,
  round,
  rounds,
}
use Rattle.closure.proofs.Forced.{Alone}
use Rattle.closure.proofs.Marks.{Holds}
use Rattle.closure.proofs.Clause.{Against, Taken, all-against, one_left, at_rest, taken}

-- I holds of the marks and the flag at the end; at a clash, of those that contradict a whole clause
abbrev pub AtEnd : List (List (Literal ℕ)) → (Marks → Bool → Type 0) → Progress → Type 0
AtEnd F I clash = (C : List (Literal ℕ)) × Memᴰ C F × (m : Marks) × (new : Bool) × I m new × Against (Holds m) C
AtEnd F I (marked m new) = I m new

-- each new mark keeps I: of a literal that a clause leaves alone, and of which nothing was known
abbrev pub Step : List (List (Literal ℕ)) → (Marks → Bool → Type 0) → Type 0
Step F I = (C : List (Literal ℕ)) → Memᴰ C F → (m : Marks) (new : Bool) → I m new
    → (l : Literal ℕ) → Memᴰ l C → Alone (Holds m) C l → mark_at m l.var ≡ unknown → I (holding m l) true

module _ (F : List (List (Literal ℕ))) (I : Marks → Bool → Type 0) (step : Step F I) where
  -- a round over some of the clauses
  part_at_end : (G : List (List (Literal ℕ))) → ((C : List (Literal ℕ)) → Memᴰ C G → Memᴰ C F)
      → (m : Marks) (new : Bool) → I m new → AtEnd F I (round G m new)
  unfolding round
  part_at_end [] sub m new i = i
  part_at_end (C ∷ G) sub m new i =
      go (take_clause C (open_in m C) m new) (taken C m new) (part_at_end G (λ D d. sub D (Memᴰ.tail d)))
    where
      c : Memᴰ C F
      c = sub C (Memᴰ.head refl)

      go : (p : Progress) → Taken C m new p → ((m' : Marks) (new' : Bool) → I m' new' → AtEnd F I (round G m' new'))
          → AtEnd F I (elim p [ clash ↦ clash | marked m' new' ↦ round G m' new' ])
      go _ (all-against w) rest = (C, c, m, new, i, w)
      go _ (one_left l h alone free) rest = rest (holding m l) true (step C c m new i l h alone free)
      go _ (at_rest r) rest = rest m new i

  -- a round keeps what each new mark keeps
  pub round_at_end : (m : Marks) (new : Bool) → I m new → AtEnd F I (round F m new)
  round_at_end = part_at_end F (λ C c. c)

  -- and so do rounds, where the flag may start again
  pub rounds_at_end : ((m : Marks) (new : Bool) → I m new → I m false) → (k : ℕ) (m : Marks) → I m false
      → AtEnd F I (rounds k F m)
  unfolding rounds
  rounds_at_end again zero m i = i
  rounds_at_end again (suc k) m i = go (round F m false) (round_at_end m false i) (rounds_at_end again k)
    where
      go : (p : Progress) → AtEnd F I p → ((m' : Marks) → I m' false → AtEnd F I (rounds k F m'))
          → AtEnd F I (elim p [
            | clash ↦ clash
            | marked m' new ↦ elim new [ false ↦ marked m' false | true ↦ rounds k F m' ]
          ])
      go clash r rest = r
      go (marked m' false) r rest = r
      go (marked m' true) r rest = rest m' (again m' true r)
