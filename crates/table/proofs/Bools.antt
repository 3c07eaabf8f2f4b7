-- Facts on tests: joined by `&&` and `||`, that hold together, and of equality.
use Prim.Native.Nat.{ℕ}
use mathlib.Core.Path.{◌≡◌, refl, sym}
use mathlib.Core.Logic.{◌⊎◌, inl, inr}
use mathlib.Core.Bool.{Bool, true, false, cond, ◌&&◌, ◌||◌, true≢false, false≢true}
use borrow.Author.Tests.{eqb-true, eq-eqb}
use lib.Dec.{eqb}
use mir.Val.{bool_byte}

-- the two parts of a test that holds, and back
pub and_parts : (a b : Bool) → a && b ≡ true → (a ≡ true) × (b ≡ true)
and_parts true b e = (refl, e)
and_parts false b e = absurd (false≢true e)

pub parts_and : (a b : Bool) → a ≡ true → b ≡ true → a && b ≡ true
parts_and true b p q = q
parts_and false b p q = p

-- one of two tests holds, and back
pub or_parts : (a b : Bool) → a || b ≡ true → (a ≡ true) ⊎ (b ≡ true)
or_parts true b e = inl refl
or_parts false b e = inr e

pub or_left : (a b : Bool) → a ≡ true → a || b ≡ true
or_left true b p = refl
or_left false b p = absurd (false≢true p)

pub or_right : (a b : Bool) → b ≡ true → a || b ≡ true
or_right true b q = refl
or_right false b q = q

-- none of two tests holds
pub or_neither : (a b : Bool) → a || b ≡ false → (a ≡ false) × (b ≡ false)
or_neither true b e = absurd (true≢false e)
or_neither false b e = (refl, e)

-- a flag as a byte
pub flag_byte : (b : Bool) → bool_byte b ≡ cond b 1 0
flag_byte true = refl
flag_byte false = refl

-- a test that is not true is false
pub not_so : (b : Bool) → ¬ (b ≡ true) → b ≡ false
not_so true n = absurd (n refl)
not_so false n = refl

-- two tests that hold together are the same
pub same_test : (a b : Bool) → (a ≡ true → b ≡ true) → (b ≡ true → a ≡ true) → a ≡ b
same_test true b f g = sym (f refl)
same_test false true f g = g refl
same_test false false f g = refl

-- two numbers may be compared either way round
pub eqb-sym : (a b : ℕ) → eqb a b ≡ eqb b a
eqb-sym a b =
    same_test (eqb a b) (eqb b a) (λ e. eq-eqb b a (sym (eqb-true a b e))) (λ e. eq-eqb a b (sym (eqb-true b a e)))
