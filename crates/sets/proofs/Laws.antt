-- The members of sets that are numbers: of the operations on bits, of powers of two, and two sets with the same
-- members.
use mathlib.Core.Path.{◌≡◌, refl, sym, ap, ap₂, ◌∙◌}
use mathlib.Core.Bool.{Bool, true, false, cond, not, ◌&&◌, ◌||◌, and-true, false≢true}
use Prim.Native.Nat.{ℕ, zero, suc, ◌+◌, ◌-◌, ◌*◌, ◌/◌, ◌%◌, ◌^◌, ◌≤◌, ◌<◌}
use native.Mathlib.Nat.{
  div-one,
  zero-div,
  pow-suc,
  pow-succ',
  div-div-eq-div-mul,
  div-eq_of_lt,
  mod-lt,
  lt_of_lt_of_le,
  zero-lt-suc,
}
use native.Mathlib.Decide.{dec_lt}
use native.Mathlib.Omega.{arith}
use borrow.Author.Tests.{eq-eqb, ne_eqb, eqb-true, eqb-false}
use lib.Dec.{eqb, ltb, eqb-zero-suc, eqb-suc-zero, eqb-suc-suc, leb-zero, leb-suc-zero, leb-suc-suc}
use lib.Pow.{pow_pos, pow_mono}
use lib.Bits.{bit_and, bit_or, and_shr, or_shr, and_mod, or_mod}
use Rattle.sets.specs.Member.{member}

-- state 0 is in a set whose number is odd
pub member_low : (m : ℕ) → member m zero ≡ eqb (m % 2) 1
unfolding member
member_low m = ap (λ (x : ℕ). eqb (x % 2) 1) (div-one m)

-- a later state is in a set when the state before it is in its half
pub member_next : (m s : ℕ) → member m (suc s) ≡ member (m / 2) s
unfolding member
member_next m s =
    ap (λ (x : ℕ). eqb (x % 2) 1) (ap (λ (x : ℕ). m / x) (pow-succ' 2 s) ∙ sym (div-div-eq-div-mul m 2 (2 ^ s)))

-- no state is in 0
pub member-zero : (s : ℕ) → member 0 s ≡ false
unfolding member
member-zero s = ap (λ (x : ℕ). eqb (x % 2) 1) (zero-div (2 ^ s))

digit_and : (x y : ℕ) → x < 2 → y < 2 → eqb (bit_and x y) 1 ≡ eqb x 1 && eqb y 1
digit_and zero y p q = refl
digit_and (suc zero) zero p q = refl
digit_and (suc zero) (suc zero) p q = refl
digit_and (suc zero) (suc (suc y)) p q = absurd (omega arith)
digit_and (suc (suc x)) y p q = absurd (omega arith)

digit_or : (x y : ℕ) → x < 2 → y < 2 → eqb (bit_or x y) 1 ≡ eqb x 1 || eqb y 1
digit_or zero y p q = refl
digit_or (suc zero) zero p q = refl
digit_or (suc zero) (suc zero) p q = refl
digit_or (suc zero) (suc (suc y)) p q = absurd (omega arith)
digit_or (suc (suc x)) y p q = absurd (omega arith)

-- a state is in the meet of two sets when it is in both
pub member-and : (a b s : ℕ) → member (bit_and a b) s ≡ member a s && member b s
unfolding member
member-and a b s =
    ap (λ (x : ℕ). eqb x 1) (ap (λ (x : ℕ). x % 2) (and_shr a b s) ∙ and_mod (a / 2 ^ s) (b / 2 ^ s) 1)
    ∙ digit_and (a / 2 ^ s % 2) (b / 2 ^ s % 2) (omega arith) (omega arith)

-- a state is in the join of two sets when it is in one of them
pub member-or : (a b s : ℕ) → member (bit_or a b) s ≡ member a s || member b s
unfolding member
member-or a b s =
    ap (λ (x : ℕ). eqb x 1) (ap (λ (x : ℕ). x % 2) (or_shr a b s) ∙ or_mod (a / 2 ^ s) (b / 2 ^ s) 1)
    ∙ digit_or (a / 2 ^ s % 2) (b / 2 ^ s % 2) (omega arith) (omega arith)

-- of q doubled and a digit, the digit is state 0
pub member-digit : (q : ℕ) (b : Bool) → member (q * 2 + cond b 1 0) zero ≡ b
member-digit q true = member_low (q * 2 + 1) ∙ eq-eqb ((q * 2 + 1) % 2) 1 (omega arith)
member-digit q false = member_low (q * 2 + 0) ∙ ne_eqb ((q * 2 + 0) % 2) 1 (omega arith)

half_digit : (q : ℕ) (b : Bool) → (q * 2 + cond b 1 0) / 2 ≡ q
half_digit q true = omega arith
half_digit q false = omega arith

-- and the states after it are those of q
pub member_rest : (q : ℕ) (b : Bool) (s : ℕ) → member (q * 2 + cond b 1 0) (suc s) ≡ member q s
member_rest q b s = member_next (q * 2 + cond b 1 0) s ∙ ap (λ (x : ℕ). member x s) (half_digit q b)

-- 2 to the t is the set of t alone
pub member_power : (t s : ℕ) → member (2 ^ t) s ≡ eqb s t
member_power zero zero = member_low 1
member_power zero (suc s) = member_next 1 s ∙ member-zero s ∙ sym (eqb-suc-zero s)
member_power (suc t) zero =
    ap (λ (x : ℕ). member x zero) (pow-suc 2 t) ∙ member_low (2 ^ t * 2) ∙ ne_eqb (2 ^ t * 2 % 2) 1 (omega arith)
    ∙ sym (eqb-zero-suc t)
member_power (suc t) (suc s) =
    member_next (2 ^ suc t) s
    ∙ ap (λ (x : ℕ). member x s) (omega (arith, pow-suc 2 t))
    ∙ member_power t s
    ∙ sym (eqb-suc-suc s t)

-- no state from w on is in a set of w states
pub member_past : (w m s : ℕ) → m < 2 ^ w → w ≤ s → member m s ≡ false
unfolding member
member_past w m s h l = ap (λ (x : ℕ). eqb (x % 2) 1) (div-eq_of_lt (lt_of_lt_of_le h (pow_mono l)))

-- so its members are below w
pub member_inside : (w m s : ℕ) → m < 2 ^ w → member m s ≡ true → s < w
member_inside w m s h e = go (dec_lt s w)
  where
    go : Dec (s < w) → s < w
    go (yes l) = l
    go (no d) = absurd (false≢true (sym (member_past w m s h (omega (arith, d))) ∙ e))

-- the half of a set of w + 1 states is one of w states
pub half_lt : (w m : ℕ) → m < 2 ^ suc w → m / 2 < 2 ^ w
half_lt w m h = omega (arith, pow-suc 2 w)

not_digit : (m : ℕ) → eqb ((1 - m % 2) % 2) 1 ≡ not (eqb (m % 2) 1)
not_digit m = go (m % 2) (mod-lt m (zero-lt-suc 1))
  where
    go : (x : ℕ) → x < 2 → eqb ((1 - x) % 2) 1 ≡ not (eqb x 1)
    go zero h = refl
    go (suc zero) h = refl
    go (suc (suc x)) h = absurd (omega arith)

-- the states below w that are not in m
pub member_complement : (w m s : ℕ) → m < 2 ^ w → member (2 ^ w - 1 - m) s ≡ ltb s w && not (member m s)
member_complement zero m s h =
    let none : 1 - 1 - m ≡ 0 = omega arith in
    ap (λ (x : ℕ). member x s) none ∙ member-zero s ∙ sym (ap (λ (b : Bool). b && not (member m s)) (leb-suc-zero s))
member_complement (suc w) m zero h =
    let low : (2 ^ suc w - 1 - m) % 2 ≡ (1 - m % 2) % 2 = omega (arith, pow-suc 2 w, pow_pos w) in
    member_low (2 ^ suc w - 1 - m)
    ∙ ap (λ (x : ℕ). eqb x 1) low
    ∙ not_digit m
    ∙ ap not (sym (member_low m))
    ∙ sym (ap (λ (b : Bool). b && not (member m zero)) (leb-suc-suc zero w ∙ leb-zero w))
member_complement (suc w) m (suc s) h =
    member_next (2 ^ suc w - 1 - m) s
    ∙ ap (λ (x : ℕ). member x s) (omega (arith, pow-suc 2 w, pow_pos w))
    ∙ member_complement w (m / 2) s (half_lt w m h)
    ∙ ap₂ (λ (x y : Bool). x && not y) (sym (leb-suc-suc (suc s) w)) (sym (member_next m s))

-- 2 to the n less one is the set of the states below n
pub member-ones : (n s : ℕ) → member (2 ^ n - 1) s ≡ ltb s n
member-ones n s =
    ap (λ (x : ℕ). member x s) (omega arith)
    ∙ member_complement n 0 s (pow_pos n)
    ∙ ap (λ (b : Bool). ltb s n && not b) (member-zero s)
    ∙ and-true (ltb s n)

digit_same : (a b : ℕ) → eqb (a % 2) 1 ≡ eqb (b % 2) 1 → a % 2 ≡ b % 2
digit_same a b e = go (eqb (b % 2) 1) e refl
  where
    go : (t : Bool) → eqb (a % 2) 1 ≡ t → eqb (b % 2) 1 ≡ t → a % 2 ≡ b % 2
    go true p q = eqb-true (a % 2) 1 p ∙ sym (eqb-true (b % 2) 1 q)
    go false p q =
        let x : ¬ (a % 2 ≡ 1) = eqb-false (a % 2) 1 p in
        let y : ¬ (b % 2 ≡ 1) = eqb-false (b % 2) 1 q in
        omega arith

-- two sets of w states with the same members are the same number
pub ext : (w a b : ℕ) → a < 2 ^ w → b < 2 ^ w → ((s : ℕ) → s < w → member a s ≡ member b s) → a ≡ b
ext zero a b p q same = omega arith
ext (suc w) a b p q same =
    let low : a % 2 ≡ b % 2 = digit_same a b (sym (member_low a) ∙ same zero (omega arith) ∙ member_low b) in
    let rest : a / 2 ≡ b / 2 =
    ext w (a / 2) (b / 2) (half_lt w a p) (half_lt w b q)
    (λ s h. sym (member_next a s) ∙ same (suc s) (omega arith) ∙ member_next b s) in
    omega arith
