-- The measure of `measure`: each call of itself may find a table less.
use Rattle.batch.proofs.measure.+measure.Given as goal

abbrev pub decreases-measure : goal.decreases-measure
decreases-measure l = l.most
