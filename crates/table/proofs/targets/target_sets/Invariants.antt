-- The loop's invariant: the rows are those of the steps before j.
use lib.ListN.{take}
use Rattle.table.specs.Table.{table_of}
use Rattle.table.specs.Rows.{Rows}
use Rattle.table.proofs.targets.target_sets.Given as goal

abbrev pub invariant-loop-j : goal.invariant-loop-j
invariant-loop-j l = Rows l.rows (take l.j (table_of l.table.bytes.now).steps)
