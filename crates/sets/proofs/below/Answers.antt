-- A power of two less one has the bits below it.
use native.Mathlib.Omega.{arith}
use lib.Pow.{pow_pos}
use Rattle.sets.proofs.Words.{shifted_one, below_set, below_all}
use Rattle.sets.proofs.below.Goals as goal

pub overflow_sub-result : goal.overflow_sub-result
overflow_sub-result c = omega (arith, shifted_one c.args.n c.if-n-lt32.true, pow_pos c.args.n)

pub returns-then-n-lt32 : goal.returns-then-n-lt32
returns-then-n-lt32 c = below_set c.args.n c.if-n-lt32.true

pub returns-else-n-lt32 : goal.returns-else-n-lt32
returns-else-n-lt32 c = below_all c.args.n c.if-n-lt32.false
