-- `check_steps` meets its contract. The loop's invariant: the steps before j have their bits, and `repeated` says
-- whether one of them repeats another.
use lib.ListN.{take, drop}
use Prim.Native.Nat.{◌≤◌}
use mathlib.Core.Path.{◌≡◌}
use mathlib.Core.Bool.{not}
use Rattle.table.specs.Table.{records, step_of, step_width}
use Rattle.table.specs.Accept.{all, step_fits, distinct}
use Rattle.table.specs.Rows.{Rows}
use Rattle.table.proofs.step_check.check_steps.Given as goal

abbrev pub invariant-loop-j : goal.invariant-loop-j
invariant-loop-j l =
    (l.j ≤ l.e)
    × (all (step_fits l.n) (records step_of step_width l.e l.section)
    ≡ all (step_fits l.n) (drop l.j (records step_of step_width l.e l.section)))
    × Rows l.given (take l.j (records step_of step_width l.e l.section))
    × (l.repeated ≡ not (distinct (take l.j (records step_of step_width l.e l.section))))
