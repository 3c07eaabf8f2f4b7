-- The ones of a word are the states of its set.
use Rattle.sets.proofs.SetOf.{ones_count}
use Rattle.sets.proofs.count.Goals as goal

pub returns : goal.returns
returns c = ones_count 32 c.args.set c.ranges.set.fits
