-- A bit of `a & b` is one of both.
use Rattle.sets.proofs.Words.{and_set}
use Rattle.sets.proofs.intersection.Goals as goal

pub returns : goal.returns
returns c = and_set c.args.a c.args.b c.ranges.a.fits c.ranges.b.fits
