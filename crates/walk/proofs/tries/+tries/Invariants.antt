-- The measures of `kept_try` and `struck_try`: each is twice the steps that are unsettled in the rows, and one for
-- `kept_try`, which calls `struck_try` on the same rows; whatever is tried has fewer steps unsettled.
use Prim.Native.Nat.{◌+◌, ◌*◌}
use Rattle.events.specs.NetTable.{table_in}
use Rattle.walk.proofs.Fewer.{unsettled_steps}
use Rattle.walk.proofs.tries.+tries.Given as goal

abbrev pub decreases-kept_try : goal.decreases-kept_try
decreases-kept_try l = 2 * unsettled_steps (table_in l.net.now) l.rows.now + 1

abbrev pub decreases-struck_try : goal.decreases-struck_try
decreases-struck_try l = 2 * unsettled_steps (table_in l.net.now) l.rows.now
