-- Duals of rows: twice the dual is the row itself, it knows the opposite, and the dual of a part is a part of the dual.
use Prim.Native.Nat.{ℕ}
use mathlib.Core.Path.{◌≡◌, refl}
use mathlib.Core.Bool.{Bool, true, false, not}
use mathlib.Core.Logic.{inl, inr}
use Rattle.rows.specs.declared.row.Row.{Row}
use Rattle.rows.specs.Row.{known, turn, WithinAt, Within, ClearAt, union}
use Rattle.rows.proofs.RowLaws.{union-true}

pub turned_twice : (e : Bool) (r : Row) → turn e (turn e r) ≡ r
turned_twice true r = refl
turned_twice false r = refl

pub turned-union : (e : Bool) (r q : Row) → turn e (union r q) ≡ union (turn e r) (turn e q)
turned-union true r q = refl
turned-union false r q = refl

-- true in the row turned by a sign means that the sign is known, and false its opposite
pub turned-known : (sign : Bool) (r : Row) (s : ℕ) → known (turn sign r) true s ≡ known r sign s
turned-known true r s = refl
turned-known false r s = refl

pub turned_opposite : (sign : Bool) (r : Row) (s : ℕ) → known (turn sign r) false s ≡ known r (not sign) s
turned_opposite true r s = refl
turned_opposite false r s = refl

pub clear_turned : (e : Bool) (r : Row) (s : ℕ) → ClearAt s r → ClearAt s (turn e r)
clear_turned true r s c = c
clear_turned false r s c = λ t f. c f t

-- what one row knows within another, its dual knows within the other's dual
pub within_duals : (e : Bool) (r q : Row) (s : ℕ) → WithinAt s r q → WithinAt s (turn e r) (turn e q)
within_duals true r q s w sign = w sign
within_duals false r q s w true = w false
within_duals false r q s w false = w true

-- and the dual may go over to the other side
pub within_turned : (e : Bool) (r q : Row) (s : ℕ) → WithinAt s (turn e r) q → WithinAt s r (turn e q)
within_turned true r q s w = w
within_turned false r q s w = within_duals false (turn false r) q s w

pub turned_within : (e : Bool) (r q : Row) → Within (turn e r) q → Within r (turn e q)
turned_within e r q w s = within_turned e r q s (w s)

pub within_trans : (r q p : Row) → Within r q → Within q p → Within r p
within_trans r q p a b s sign k = b s sign (a s sign k)

-- each of two rows is within both
pub within_left : (r q : Row) → Within r (union r q)
within_left r q s sign k = (union-true r q sign s).1 (inl k)

pub within_right : (r q : Row) → Within q (union r q)
within_right r q s sign k = (union-true r q sign s).1 (inr k)
