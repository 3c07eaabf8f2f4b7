-- A set that is not 0 and has no member but its lowest has exactly one.
use Prim.Native.Nat.{ℕ}
use mathlib.Core.Path.{◌≡◌}
use mathlib.Core.Bool.{not, ◌&&◌}
use borrow.Author.Tests.{eq-eqb, ne_eqb}
use lib.Dec.{eqb}
use Rattle.sets.specs.Member.{member, set_of, lowest_of}
use Rattle.rows.specs.Row.{only}
use Rattle.rows.proofs.row.is_only.Goals as goal

pub returns-then-set-ne0 : goal.returns-then-set-ne0
unfolding only
returns-then-set-ne0 c =
    let x : ℕ = c.args.set in
    let without_lowest : c.remove.result ≡ set_of 32 (λ t. member x t && not (eqb t (lowest_of 32 (member x)))) =
    rw (← c.lowest.ensures) c.remove.ensures in
    rw (ne_eqb x 0 c.if-set-ne0.true, without_lowest)

pub returns-else-set-ne0 : goal.returns-else-set-ne0
unfolding only
returns-else-set-ne0 c = rw (eq-eqb c.args.set 0 c.if-set-ne0.false)
