-- A one shifted by s is the set of s alone.
use Rattle.sets.proofs.Words.{insert_set, insert_past}
use Rattle.sets.proofs.insert.Goals as goal

pub returns-then-s-lt32 : goal.returns-then-s-lt32
returns-then-s-lt32 c = insert_set c.args.set c.args.s c.ranges.set.fits c.if-s-lt32.true

pub returns-else-s-lt32 : goal.returns-else-s-lt32
returns-else-s-lt32 c = insert_past c.args.set c.args.s c.ranges.set.fits c.if-s-lt32.false
