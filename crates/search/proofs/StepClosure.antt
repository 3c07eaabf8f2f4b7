-- The closure of literals of steps, as it is computed, is the one that is defined: it fails where that does, its
-- marks have the same literals of steps, and it settles as many.
use Prim.Native.Nat.{ℕ, ◌<◌}
use native.Mathlib.Omega.{arith}
use mathlib.Core.Path.{◌≡◌}
use mathlib.Core.Bool.{Bool}
use mathlib.Core.Logic.{◌↔◌}
use mathlib.Core.List.{List, Memᴰ}
use lib.ListN.{length}
use Rattle.table.specs.Table.{Table}
use Rattle.table.specs.Facts.{Wellformed}
use Rattle.circuit.specs.Logic.{Literal}
use Rattle.circuit.specs.Variables.{step, variable_count, literal}
use Rattle.circuit.specs.Clauses.{clauses}
use Rattle.closure.specs.Closure.{Forced, Fails}
use Rattle.closure.specs.Computed.{known, Marks, mark_at, clash, marked, settled_below}
use Rattle.closure.specs.Numbered.{numbered_clauses}
use Rattle.closure.specs.Given.{Given}
use Rattle.closure.specs.Advance.{ForcedBy}
use Rattle.closure.specs.Settled.{HowMany, Settles, CountsSettled, SettledCount}
use Rattle.closure.proofs.Computed.{closure_fails, closure_holds}
use Rattle.closure.proofs.SettledBelow as below
use Rattle.closure.proofs.Places.{steps_fit, numbered_inside}
use Rattle.search.specs.Fine.{Fine, closure_of, step_literals}
use Rattle.search.proofs.ByNumber.{fine_within, steps_same, fails_same}

-- as many, where the same numbers have it
many_same : {e count : ℕ} {Q R : ℕ → Type 0} → ((j : ℕ) → j < e → Q j ↔ R j) → HowMany e Q count → HowMany e R count
many_same same h = (h.0, λ j l. (λ t. (same j l).0 ((h.1 j l).0 t), λ r. (h.1 j l).1 ((same j l).1 r)), h.2)

module _ (T : Table) (wf : Wellformed T) (P : List (Literal ℕ)) (fine : Fine (length T.steps) P) where
  pub clash_exact : (closure_of T P ≡ clash) ↔ Fails (clauses T) (λ l. Memᴰ l (step_literals P))
  clash_exact =
      let computed = closure_fails (variable_count T) (numbered_clauses T) P (numbered_inside T wf) fine.consistent
      (fine_within T fine) in
      let same = fails_same T wf P fine.within in
      (λ e. same.1 (computed.0 e), λ f. computed.1 (same.0 f))

  pub mark_exact : {m : Marks} {new : Bool} → closure_of T P ≡ marked m new
      → (i : ℕ) (sign : Bool) → i < length T.steps
      → (mark_at m i ≡ known sign) ↔ ForcedBy T (step_literals P) (literal sign (step i))
  mark_exact {m} {new} q i sign h =
      let l : Literal ℕ = record { sign = sign; var = i } in
      let same = steps_same T wf P fine.within l h in
      let marks = closure_holds (variable_count T) (numbered_clauses T) P (numbered_inside T wf) fine.consistent
      (fine_within T fine) m new q l (omega (arith, steps_fit T)) in
      (λ k. same.1 (marks.0 k), λ f. marks.1 (same.0 f))

  -- ---- how many steps it settles

  -- a step is settled by variable as it is by number
  settles_same : (j : ℕ) → j < length T.steps
      → Settles (numbered_clauses T) (Given P) j ↔ Settles (clauses T) (λ l. Memᴰ l (step_literals P)) (step j)
  settles_same j h = (λ s. (s.0, (same s.0).1 s.1), λ s. (s.0, (same s.0).0 s.1))
    where
      same : (sign : Bool) → ForcedBy T (step_literals P) (literal sign (step j))
          ↔ Forced (numbered_clauses T) (Given P) (record { sign = sign; var = j })
      same sign = steps_same T wf P fine.within (record { sign = sign; var = j }) h

  count_same : (count : ℕ)
      → CountsSettled (numbered_clauses T) (Given P) (λ j. j) (length T.steps) count
      ↔ SettledCount T (step_literals P) count
  count_same count =
      let fails = fails_same T wf P fine.within in (
        λ s. record {
          failed = λ f. s.failed (fails.0 f);
          counted = λ n. many_same settles_same (s.counted (λ f. n (fails.1 f)));
        },
        λ s. record {
          failed = λ f. s.failed (fails.1 f);
          counted = λ n. many_same (λ j h. let same = settles_same j h in (same.1, same.0))
              (s.counted (λ f. n (fails.0 f)));
        },
      )

  pub settled_right : SettledCount T (step_literals P) (settled_below (length T.steps) (closure_of T P))
  settled_right = (count_same _).0
      (below.settled_right (variable_count T) (numbered_clauses T) P (numbered_inside T wf) fine.consistent
      (fine_within T fine) (length T.steps) (steps_fit T))

  -- and no other number is that
  pub settled_only : (count : ℕ) → SettledCount T (step_literals P) count
      → count ≡ settled_below (length T.steps) (closure_of T P)
  settled_only count s =
      below.settled_only (variable_count T) (numbered_clauses T) P (numbered_inside T wf) fine.consistent
      (fine_within T fine) (length T.steps) (steps_fit T) count ((count_same count).1 s)
