-- The loop's invariant: the lines from j on are left.
use Rattle.table.specs.Table.{steps_of}
use Rattle.render.proofs.Left.{Left}
use Rattle.report.proofs.Kept.{kept_from}
use Rattle.report.proofs.steps.write_steps.Given as goal

abbrev pub invariant-loop-j : goal.invariant-loop-j
invariant-loop-j l =
    let steps = steps_of l.table.bytes.now in
    Left l.initial.text l.at (kept_from steps l.list 0) l.text l.place (kept_from steps l.list l.j)
