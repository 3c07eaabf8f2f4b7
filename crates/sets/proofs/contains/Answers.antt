-- Shifted by s, the lowest bit says whether s is a member; from 32 on nothing is.
use mathlib.Core.Path.{sym}
use Rattle.sets.proofs.Laws.{member_past}
use Rattle.sets.proofs.Words.{bit_member}
use Rattle.sets.proofs.contains.Goals as goal

pub returns-then-s-lt32 : goal.returns-then-s-lt32
returns-then-s-lt32 c = bit_member c.args.set c.args.s

pub returns-else-s-lt32 : goal.returns-else-s-lt32
returns-else-s-lt32 c = sym (member_past 32 c.args.set c.args.s c.ranges.set.fits c.if-s-lt32.false)
