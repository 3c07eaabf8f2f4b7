-- The children of a node are lower.
use Prim.Native.Nat.{ℕ, ◌<◌}
use native.Mathlib.Omega.{arith}
use mathlib.Core.Path.{◌≡◌}
use mathlib.Core.Bool.{true, false≢true}
use mathlib.Core.Logic.{⊎_elim}
use borrow.Author.Tests.{eqb-true}
use lib.Dec.{eqb}
use Rattle.table.proofs.Bools.{or_parts}
use Rattle.ctl.specs.Rule.{Operator, constant, atom, negation, conjunction, disjunction, next, fixpoint}
use Rattle.ctl.proofs.BottomUp.{Below}
use Rattle.readers.specs.Reads.{is_child}

-- a child has a lower number
pub child_below : (i : ℕ) (o : Operator) → Below i o → (c : ℕ) → is_child o c ≡ true → c < i
child_below i (constant b) l c e = absurd (false≢true e)
child_below i (atom p) l c e = absurd (false≢true e)
child_below i (negation a) l c e = omega (arith, l, eqb-true a c e)
child_below i (conjunction a b) l c e = ⊎_elim (λ f. omega (arith, l.0, eqb-true a c f))
    (λ f. omega (arith, l.1, eqb-true b c f)) (or_parts (eqb a c) (eqb b c) e)
child_below i (disjunction a b) l c e = ⊎_elim (λ f. omega (arith, l.0, eqb-true a c f))
    (λ f. omega (arith, l.1, eqb-true b c f)) (or_parts (eqb a c) (eqb b c) e)
child_below i (next q a) l c e = omega (arith, l, eqb-true a c e)
child_below i (fixpoint fam q a b) l c e = ⊎_elim (λ f. omega (arith, l.0, eqb-true a c f))
    (λ f. omega (arith, l.1, eqb-true b c f)) (or_parts (eqb a c) (eqb b c) e)
