-- The complement of a word has the states that the word has not.
use Rattle.sets.proofs.Words.{minus_set}
use Rattle.sets.proofs.minus.Goals as goal

pub returns : goal.returns
returns c = minus_set c.args.a c.args.b c.ranges.a.fits c.ranges.b.fits
