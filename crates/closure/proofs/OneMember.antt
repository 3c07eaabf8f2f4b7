-- Sets with one member.
use Prim.Native.Nat.{ℕ, ◌^◌, ◌<◌}
use mathlib.Core.Path.{◌≡◌, subst}
use mathlib.Core.Bool.{true}
use mathlib.Core.Logic.{⊎_elim}
use borrow.Author.Tests.{eqb-true, eqb-false}
use lib.Dec.{eqb}
use Rattle.sets.specs.Member.{member}
use Rattle.table.proofs.Bools.{not_so}
use Rattle.rows.specs.Row.{only}
use Rattle.rows.proofs.RowLaws.{nonempty_some, only-true}
use Rattle.closure.proofs.Forced.{one_of_both}

-- a number is t, or it differs
pub same_or : {A : Type 0} (u t : ℕ) → (u ≡ t → A) → (¬ (u ≡ t) → A) → A
same_or u t f g = ⊎_elim (λ e. f (eqb-true u t e)) (λ e. g (eqb-false u t e)) (one_of_both (eqb u t) true)

-- a set that is not empty and has no member but t has just t
pub only_this : (x t : ℕ) → x < 2 ^ 32 → ¬ (eqb x 0 ≡ true) → ((u : ℕ) → member x u ≡ true → u ≡ t)
    → (member x t ≡ true) × (only x ≡ true)
only_this x t h some same =
    let c = nonempty_some x h (not_so _ some) in
    let here : member x t ≡ true = subst (λ (u : ℕ). member x u ≡ true) (same c.0 c.2) c.2 in
    (here, (only-true x h).1 (t, here, same))
