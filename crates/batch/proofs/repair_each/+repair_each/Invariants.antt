-- The measure of `repair_each`: each call of itself may find a table less.
use Rattle.batch.proofs.repair_each.+repair_each.Given as goal

abbrev pub decreases-repair_each : goal.decreases-repair_each
decreases-repair_each l = l.most
