-- The zeros below the lowest set bit are as many as its place, at most 32.
use native.Mathlib.Omega.{arith}
use lib.Count.{trailing_le}
use Rattle.sets.proofs.SetOf.{zeros_lowest}
use Rattle.sets.proofs.lowest.Goals as goal

pub overflow_cast-result : goal.overflow_cast-result
overflow_cast-result c = omega (arith, trailing_le 32 c.args.set)

pub returns : goal.returns
returns c = zeros_lowest 32 c.args.set
