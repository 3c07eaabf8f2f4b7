-- The loop's invariant: the rows are those of the kept steps before j.
use lib.ListN.{take}
use Rattle.table.specs.Table.{table_of}
use Rattle.table.specs.Rows.{Rows}
use Rattle.ctl.specs.Labels.{kept_steps}
use Rattle.label.proofs.rows.kept_rows.Given as goal

abbrev pub invariant-loop-j : goal.invariant-loop-j
invariant-loop-j l = Rows l.rows (kept_steps (take l.j (table_of l.table.bytes.now).steps) (take l.j l.list))
