-- `kept_states` meets its contract. The loop's invariant: the set is that of the states that a kept step before j
-- leaves.
use Rattle.table.specs.Table.{table_of}
use Rattle.repair.proofs.Rounds.{KeptBefore}
use Rattle.repair.proofs.reached.kept_states.Given as goal

abbrev pub invariant-loop-j : goal.invariant-loop-j
invariant-loop-j l = KeptBefore (table_of l.table.bytes.now) l.list l.j l.kept
