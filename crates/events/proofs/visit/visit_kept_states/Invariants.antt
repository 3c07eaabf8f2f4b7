-- `visit_kept_states` meets its contract: K at one state of the set after the other.
use mathlib.Core.Path.{◌≡◌}
use mathlib.Core.Bool.{false}
use Rattle.sets.proofs.Walk.{Left}
use Rattle.propagate.specs.Marked.{RowsMarked}
use Rattle.events.specs.NetTable.{table_in}
use Rattle.events.proofs.VisitKept.{KeptOn}
use Rattle.events.proofs.visit.visit_kept_states.Given as goal

abbrev pub invariant-loop-s : goal.invariant-loop-s
invariant-loop-s l = record {
  left : Left l.look l.s-iterator.left;
  kept : KeptOn (table_in l.net) l.look l.s-iterator.left l.initial.rows l.rows l.report;
  marked : RowsMarked l.net.graph.readers l.initial.looks l.looks l.initial.rows l.rows;
  calm : l.report.changed ≡ false → l.looks ≡ l.initial.looks;
}
