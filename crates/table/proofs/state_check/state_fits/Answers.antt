-- `state_fits` meets its contract: a label shifted by p is 0 exactly when it is below 2 ^ p.
use native.Mathlib.Omega.{arith}
use borrow.Author.Tests.{le-leb}
use Rattle.table.proofs.Numbers.{shifted_out}
use Rattle.table.proofs.state_check.state_fits.Goals as goal

pub returns-then-s-le1 : goal.returns-then-s-le1
returns-then-s-le1 c =
    let a = c.args in
    simp (le-leb a.s.initial 1 (omega arith)) (shifted_out a.s.label a.p)
