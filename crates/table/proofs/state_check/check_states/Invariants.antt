-- `check_states` meets its contract. The loop's invariant: the records before i fit, and what was found says whether
-- one of them is initial.
use mathlib.Core.Bool.{◌||◌}
use Prim.Native.Nat.{◌≤◌}
use mathlib.Core.Path.{◌≡◌}
use lib.ListN.{drop}
use Rattle.table.specs.Table.{records, state_of, state_width, is_initial}
use Rattle.table.specs.Accept.{all, any, state_fits}
use Rattle.table.proofs.state_check.check_states.Given as goal

abbrev pub invariant-loop-i : goal.invariant-loop-i
invariant-loop-i l =
    (l.i ≤ l.n)
    × (all (state_fits l.p) (records state_of state_width l.n l.section)
    ≡ all (state_fits l.p) (drop l.i (records state_of state_width l.n l.section)))
    × (any is_initial (records state_of state_width l.n l.section)
    ≡ l.found || any is_initial (drop l.i (records state_of state_width l.n l.section)))
