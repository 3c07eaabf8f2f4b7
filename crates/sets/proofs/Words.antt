-- What the functions compute on words of 32 bits, as sets.
use mathlib.Core.Path.{◌≡◌, sym, ap, ◌∙◌}
use mathlib.Core.Bool.{Bool, not, ◌&&◌, ◌||◌, and-true, or-false}
use Prim.Native.Nat.{ℕ, ◌-◌, ◌*◌, ◌/◌, ◌%◌, ◌^◌, ◌≤◌, ◌<◌}
use native.Mathlib.Nat.{one-mul, mod-eq_of_lt, lt_of_lt_of_le, lt_of_le_of_lt, sub-le}
use native.Mathlib.Omega.{arith}
use borrow.Author.Tests.{ne_eqb, lt-ltb}
use lib.Dec.{eqb, ltb}
use lib.Pow.{pow-lt, ones_lt, ones_sub-lt}
use lib.Bits.{bit_and, bit_or, and_mask, and_lt, or_lt}
use Rattle.sets.specs.Member.{member, set_of}
use Rattle.sets.proofs.Laws.{member-and, member-or, member_power, member-ones, member_complement}
use Rattle.sets.proofs.SetOf.{set_of_cong, set_of_unique}

-- a one shifted by less than the width is a power of two
pub shifted_one : (s : ℕ) → s < 32 → (1 * 2 ^ s) % 4294967296 ≡ 2 ^ s
shifted_one s h = ap (λ (x : ℕ). x % 4294967296) (one-mul (2 ^ s)) ∙ mod-eq_of_lt (pow-lt {j = 32} h)

-- the bit that `contains` tests
pub bit_member : (set s : ℕ) → eqb (bit_and (set / 2 ^ s) 1) 1 ≡ member set s
unfolding member
bit_member set s = ap (λ (x : ℕ). eqb x 1) (and_mask (set / 2 ^ s) 1)

-- `a | b`
pub or_set : (a b : ℕ) → a < 2 ^ 32 → b < 2 ^ 32 → bit_or a b ≡ set_of 32 (λ t. member a t || member b t)
or_set a b p q =
    set_of_unique 32 (λ t. member a t || member b t) (bit_or a b) (or_lt 32 a b p q) (λ s h. member-or a b s)

-- `a & b`
pub and_set : (a b : ℕ) → a < 2 ^ 32 → b < 2 ^ 32 → bit_and a b ≡ set_of 32 (λ t. member a t && member b t)
and_set a b p q =
    set_of_unique 32 (λ t. member a t && member b t) (bit_and a b) (and_lt 32 a b p q) (λ s h. member-and a b s)

-- `a & !b`
pub minus_set : (a b : ℕ) → a < 2 ^ 32 → b < 2 ^ 32
    → bit_and a (4294967295 - b) ≡ set_of 32 (λ t. member a t && not (member b t))
minus_set a b p q =
    set_of_unique 32 (λ t. member a t && not (member b t)) (bit_and a (4294967295 - b))
    (and_lt 32 a (4294967295 - b) p (ones_sub-lt 32 b))
    (λ s h. member-and a (4294967295 - b) s
    ∙ ap (λ (x : Bool). member a s && x)
    (member_complement 32 b s q ∙ ap (λ (x : Bool). x && not (member b s)) (lt-ltb s 32 h)))

-- `set | 1 << s`
pub insert_set : (set s : ℕ) → set < 2 ^ 32 → s < 32
    → bit_or set ((1 * 2 ^ s) % 4294967296) ≡ set_of 32 (λ t. member set t || eqb t s)
insert_set set s p h =
    ap (bit_or set) (shifted_one s h)
    ∙ set_of_unique 32 (λ t. member set t || eqb t s) (bit_or set (2 ^ s)) (or_lt 32 set (2 ^ s) p (pow-lt {j = 32} h))
    (λ t l. member-or set (2 ^ s) t ∙ ap (λ (x : Bool). member set t || x) (member_power s t))

-- a state that no word holds is not inserted
pub insert_past : (set s : ℕ) → set < 2 ^ 32 → 32 ≤ s → set ≡ set_of 32 (λ t. member set t || eqb t s)
insert_past set s p h =
    set_of_unique 32 (λ t. member set t || eqb t s) set p
    (λ t l. sym (ap (λ (x : Bool). member set t || x) (ne_eqb t s (omega arith)) ∙ or-false (member set t)))

-- `(1 << n) - 1`
pub below_set : (n : ℕ) → n < 32 → (1 * 2 ^ n) % 4294967296 - 1 ≡ set_of 32 (λ t. ltb t n)
below_set n h =
    ap (λ (x : ℕ). x - 1) (shifted_one n h)
    ∙ set_of_unique 32 (λ t. ltb t n) (2 ^ n - 1) (lt_of_le_of_lt (sub-le (2 ^ n) 1) (pow-lt {j = 32} h))
    (λ t l. member-ones n t)

-- all 32 states are below n
pub below_all : (n : ℕ) → 32 ≤ n → 4294967295 ≡ set_of 32 (λ t. ltb t n)
below_all n h =
    set_of_unique 32 (λ t. ltb t n) 4294967295 (ones_lt 32)
    (λ t l. member-ones 32 t ∙ lt-ltb t 32 l ∙ sym (lt-ltb t n (lt_of_lt_of_le l h)))

-- `set & !(1 << s)`
pub remove_set : (set s : ℕ) → set < 2 ^ 32 → s < 32
    → bit_and set (4294967295 - (1 * 2 ^ s) % 4294967296) ≡ set_of 32 (λ t. member set t && not (eqb t s))
remove_set set s p h =
    ap (λ (x : ℕ). bit_and set (4294967295 - x)) (shifted_one s h)
    ∙ minus_set set (2 ^ s) p (pow-lt {j = 32} h)
    ∙ set_of_cong 32 _ _ (λ t l. ap (λ (x : Bool). member set t && not x) (member_power s t))

-- a state that no word holds is not there to remove
pub remove_past : (set s : ℕ) → set < 2 ^ 32 → 32 ≤ s → set ≡ set_of 32 (λ t. member set t && not (eqb t s))
remove_past set s p h =
    set_of_unique 32 (λ t. member set t && not (eqb t s)) set p
    (λ t l. sym (ap (λ (x : Bool). member set t && not x) (ne_eqb t s (omega arith)) ∙ and-true (member set t)))
