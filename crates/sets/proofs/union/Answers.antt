-- A bit of `a | b` is one of a or of b.
use Rattle.sets.proofs.Words.{or_set}
use Rattle.sets.proofs.union.Goals as goal

pub returns : goal.returns
returns c = or_set c.args.a c.args.b c.ranges.a.fits c.ranges.b.fits
