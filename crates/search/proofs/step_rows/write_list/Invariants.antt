-- `write_list` meets its contract. The loop's invariant: the bytes of the steps before j are written.
use mathlib.Core.Path.{◌≡◌}
use lib.ListN.{length}
use Rattle.table.specs.Buffer.{over}
use Rattle.table.specs.Table.{table_of}
use Rattle.search.specs.StepRows.{kept_bytes}
use Rattle.search.proofs.step_rows.write_list.Given as goal

abbrev pub invariant-loop-j : goal.invariant-loop-j
invariant-loop-j l =
    let T = table_of l.table.bytes.now in (l.j-end ≡ length T.steps)
    × (l.list ≡ over l.j (kept_bytes T l.rows) l.initial.list)
