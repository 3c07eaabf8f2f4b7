-- The rounds end in one that adds nothing: each other one leaves fewer marks unknown. Then the marks are closed under
-- the unit rule.
use Prim.Native.Nat.{ℕ, zero, suc, ◌≤◌, ◌<◌}
use native.Mathlib.Omega.{arith}
use mathlib.Core.Path.{◌≡◌, refl, sym, subst, ◌∙◌}
use mathlib.Core.Bool.{Bool, true, false, false≢true}
use mathlib.Core.Logic.{◌⊎◌, inl, inr}
use mathlib.Core.List.Memᴰ
use mathlib.Core.List.{List, [], ◌∷◌, Memᴰ}
use lib.ListN.{length, length-set}
use Rattle.circuit.specs.Logic.{Literal}
use Rattle.closure.specs.Computed.{Marks, known, holding, open_in, Progress, clash, marked, take_clause, round, rounds}
use Rattle.closure.specs.Given.{ClausesBelow}
use Rattle.closure.proofs.Forced.{ClauseClosed}
use Rattle.closure.proofs.Marks.{Holds, unknowns, unknowns_fall}
use Rattle.closure.proofs.Clause.{Taken, all-against, one_left, at_rest, taken}
use Rattle.closure.proofs.Rounds.{AtEnd, Step, round_at_end}

-- the marks are closed under the unit rule for each clause
abbrev pub Rest : List (List (Literal ℕ)) → Marks → Type 0
Rest F m = (C : List (Literal ℕ)) → Memᴰ C F → ClauseClosed (Holds m) C

pub clash_marked : {m : Marks} {b : Bool} → ¬ (clash ≡ marked m b)
clash_marked e = let z : ◌≡◌ {A = ℕ} 0 1 = cc in omega arith

-- ---- a round that adds nothing

-- once a mark is new, the round ends with the flag set
flag_stays : (F : List (List (Literal ℕ))) (m m' : Marks) (b : Bool) → round F m true ≡ marked m' b → b ≡ true
flag_stays F m m' b e = subst (AtEnd F Set) e (round_at_end F Set (λ C c m new i l h alone free. refl) m true refl)
  where
    Set : Marks → Bool → Type 0
    Set m new = new ≡ true

-- each clause of a round that adds nothing is at rest
pub round_rest : (F : List (List (Literal ℕ))) (m m' : Marks) (new : Bool) → round F m new ≡ marked m' false → Rest F m
unfolding round
round_rest [] m m' new e D d = absurd (Memᴰ.not-nil d)
round_rest (C ∷ F) m m' new e D d =
    go (take_clause C (open_in m C) m new) (taken C m new) e (Memᴰ.cases_cons d) (round_rest F m m' new)
  where
    go : (p : Progress) → Taken C m new p
        → (elim p [ clash ↦ clash | marked m'' new'' ↦ round F m'' new'' ]) ≡ marked m' false
        → (D ≡ C) ⊎ Memᴰ D F → (round F m new ≡ marked m' false → Rest F m) → ClauseClosed (Holds m) D
    go _ (all-against w) e d rest = absurd (clash_marked e)
    go _ (one_left l h alone free) e d rest = absurd (false≢true (flag_stays F (holding m l) m' false e))
    go _ (at_rest r) e (inl p) rest = subst (ClauseClosed (Holds m)) (sym p) r
    go _ (at_rest r) e (inr d) rest = rest e D d

-- ---- enough rounds

-- what a round from m ends with: m itself, or fewer unknown marks
abbrev Moved : Marks → Marks → Bool → Type 0
Moved m m' false = m' ≡ m
Moved m m' true = unknowns m' < unknowns m

moved_le : (m m' : Marks) (new : Bool) → Moved m m' new → unknowns m' ≤ unknowns m
moved_le m m' false e = subst (λ x. unknowns x ≤ unknowns m) (sym e) (omega arith)
moved_le m m' true h = omega arith

module _ (size : ℕ) (F : List (List (Literal ℕ))) (inside : ClausesBelow size F) where
  -- all marks are there, and the round has added nothing or left fewer of them unknown
  abbrev Moving : Marks → Marks → Bool → Type 0
  Moving m m' new = (length m' ≡ size) × Moved m m' new

  moving_step : (m : Marks) → Step F (Moving m)
  moving_step m C c m' new i l h alone free =
      let below : l.var < length m' = omega (arith, i.0, inside C c l h) in (
        length-set m' l.var (known l.sign) ∙ i.0,
        omega (arith, unknowns_fall m' l.var l.sign below free, moved_le m m' new i.1),
      )

  round_moves : (m : Marks) → length m ≡ size → AtEnd F (Moving m) (round F m false)
  round_moves m full = round_at_end F (Moving m) (moving_step m) m false (full, refl)

  -- a round that adds nothing is the last, and one that adds a mark leaves the rest to the rounds after it
  first_round : (k : ℕ) (m m' : Marks) (b : Bool) → length m ≡ size → rounds (suc k) F m ≡ marked m' b
      → ((m'' : Marks) → length m'' ≡ size → unknowns m'' < unknowns m → rounds k F m'' ≡ marked m' b → Rest F m')
      → Rest F m'
  unfolding rounds
  first_round k m m' b full e after = go (round F m false) refl (round_moves m full) e
    where
      go : (p : Progress) → round F m false ≡ p → AtEnd F (Moving m) p
          → (elim p [ clash ↦ clash | marked m'' new ↦ elim new [ false ↦ marked m'' false | true ↦ rounds k F m'' ] ])
          ≡ marked m' b
          → Rest F m'
      go clash q r e = absurd (clash_marked e)
      go (marked m'' false) q r e = let same : m ≡ m' = cc r.1 in subst (Rest F) same (round_rest F m m'' false q)
      go (marked m'' true) q r e = after m'' r.0 r.1 e

  -- with a round more than there are unknown marks, the marks at the end are at rest
  pub rounds_rest : (k : ℕ) (m m' : Marks) (b : Bool) → length m ≡ size → unknowns m ≤ k
      → rounds (suc k) F m ≡ marked m' b → Rest F m'
  rounds_rest zero m m' b full few e = first_round zero m m' b full e (λ m'' f fewer r. absurd (omega arith))
  rounds_rest (suc k) m m' b full few e =
      first_round (suc k) m m' b full e (λ m'' f fewer r. rounds_rest k m'' m' b f (omega arith) r)
