-- The closure of a table's numbered clauses is what the search needs to find the first repair.
use Prim.Native.Nat.{ℕ}
use native.Mathlib.Omega.{arith}
use mathlib.Core.List.Memᴰ
use mathlib.Core.List.{List, ◌∷◌}
use mathlib.Core.Path.{refl}
use lib.ListN.{length}
use Rattle.table.specs.Table.{Table}
use Rattle.table.specs.Facts.{Wellformed}
use Rattle.ctl.specs.Kept.{Repair}
use Rattle.circuit.specs.Logic.{Literal}
use Rattle.circuit.specs.Variables.{variable_count}
use Rattle.closure.specs.Computed.{closure}
use Rattle.closure.specs.Numbered.{numbered_clauses}
use Rattle.closure.specs.Given.{ClausesBelow}
use Rattle.closure.proofs.Computed.{held_forced, clash_fails}
use Rattle.closure.proofs.Grow.{closure_grows, closure_keeps, consistent_more, within_more}
use Rattle.search.specs.Fine.{Fine}
use Rattle.search.proofs.Needs.{ClosureIsRight}
use Rattle.closure.proofs.Places.{steps_fit, numbered_inside}
use Rattle.search.proofs.ByNumber.{fine_within}
use Rattle.search.proofs.RepairSound.{repair_no_fail, repair_forced}
use Rattle.search.proofs.SettledRepair.{settled_repair}

-- the closure is right for the repairs of the table
pub closure-is_right : (T : Table) → Wellformed T
    → ClosureIsRight (length T.steps) (Repair T) (closure (variable_count T) (numbered_clauses T))
    (Fine (length T.steps))
closure-is_right T wf = record {
  model_size = λ list r. r.form.size;
  model_bits = λ list r. r.form.bits;
  fine_none = record { consistent = λ l h. absurd (Memᴰ.not-nil h); within = λ l h. absurd (Memᴰ.not-nil h) };
  fine_more = λ {P} f c j s h free. record {
    consistent = consistent_more size F P inside f.consistent (fine_within T f) c (record { sign = s; var = j }) free;
    within = within_more (length T.steps) P (record { sign = s; var = j }) h f.within;
  };
  clash_sound = λ {P} f c list r a. repair_no_fail T wf P f.within list r a (clash_fails size F P c);
  mark_sound = λ {P} f c list r a j x h k. repair_forced T wf P f.within list r a j x h
      (held_forced size F P c (record { sign = x; var = j }) k);
  grows = λ {P} {l} f f' c c' j x h k. closure_grows size F P l inside f'.consistent (fine_within T f') c c' k
      (omega (arith, steps_fit T));
  keeps = λ {P} {l} f c. closure_keeps size F (l ∷ P) inside f.consistent (fine_within T f) c (Memᴰ.head refl);
  complete = λ {P} f c known. settled_repair T wf P f.consistent (fine_within T f) c known;
}
  where
    size : ℕ
    size = variable_count T

    F : List (List (Literal ℕ))
    F = numbered_clauses T

    inside : ClausesBelow size F
    inside = numbered_inside T wf
