-- The complement of a one shifted by s has every state but s.
use Rattle.sets.proofs.Words.{remove_set, remove_past}
use Rattle.sets.proofs.remove.Goals as goal

pub returns-then-s-lt32 : goal.returns-then-s-lt32
returns-then-s-lt32 c = remove_set c.args.set c.args.s c.ranges.set.fits c.if-s-lt32.true

pub returns-else-s-lt32 : goal.returns-else-s-lt32
returns-else-s-lt32 c = remove_past c.args.set c.args.s c.ranges.set.fits c.if-s-lt32.false
