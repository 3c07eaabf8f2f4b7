-- Sums of the values at the places below a bound.
use Prim.Native.Nat.{ℕ, zero, suc, ◌+◌, ◌*◌, ◌≤◌, ◌<◌}
use mathlib.Core.Path.{◌≡◌, refl, sym, ap, ap₂, ◌∙◌}
use mathlib.Core.Bool.{Bool, true, false, cond}
use native.Mathlib.Decide.{ℕ_discrete}
use native.Mathlib.Nat.{add-zero, mul-suc, suc-mul, zero-mul, mul-zero}
use native.Mathlib.Numerals.{add-one}
use native.Mathlib.Omega.{arith}
use borrow.Author.Tests.{eq-eqb, ne_eqb}
use lib.Dec.{eqb}
use Rattle.sets.specs.Member.{count_of}
use Rattle.ctl.specs.Price.{sum_below}

-- sums of the same values are the same
pub sum_cong : (n : ℕ) (f g : ℕ → ℕ) → ((j : ℕ) → j < n → f j ≡ g j) → sum_below n f ≡ sum_below n g
unfolding sum_below
sum_cong zero f g same = refl
sum_cong (suc n) f g same =
    ap₂ (λ (x y : ℕ). x + y) (sum_cong n f g (λ j h. same j (omega arith))) (same n (omega arith))

-- with one more value at the end
pub sum_next : (n : ℕ) (f : ℕ → ℕ) → sum_below (n + 1) f ≡ sum_below n f + f n
unfolding sum_below
sum_next n f = ap (λ (k : ℕ). sum_below k f) (add-one n)

-- with one more value at the front
pub sum_low : (n : ℕ) (f : ℕ → ℕ) → sum_below (suc n) f ≡ f zero + sum_below n (λ j. f (suc j))
unfolding sum_below
sum_low zero f = omega arith
sum_low (suc n) f =
    let low : sum_below (suc n) f ≡ f zero + sum_below n (λ j. f (suc j)) = sum_low n f in
    omega arith

-- sums of greater values are greater
pub sum-le : (n : ℕ) (f g : ℕ → ℕ) → ((j : ℕ) → j < n → f j ≤ g j) → sum_below n f ≤ sum_below n g
unfolding sum_below
sum-le zero f g less = omega arith
sum-le (suc n) f g less = omega (arith, sum-le n f g (λ j h. less j (omega arith)), less n (omega arith))

pub sum_most : (n k : ℕ) (f : ℕ → ℕ) → ((j : ℕ) → f j ≤ k) → sum_below n f ≤ k * n
unfolding sum_below
sum_most zero k f h = omega arith
sum_most (suc n) k f h = omega (arith, sum_most n k f h, h n, mul-suc k n)

pub sum_add : (n : ℕ) (f g : ℕ → ℕ) → sum_below n (λ j. f j + g j) ≡ sum_below n f + sum_below n g
unfolding sum_below
sum_add zero f g = refl
sum_add (suc n) f g = omega (arith, sum_add n f g)

pub sum_constant : (n c : ℕ) → sum_below n (λ j. c) ≡ n * c
unfolding sum_below
sum_constant zero c = sym (zero-mul c)
sum_constant (suc n) c = omega (arith, sum_constant n c, suc-mul n c)

-- c at each place that has the property
pub sum_of_count : (n c : ℕ) (p : ℕ → Bool) → sum_below n (λ j. cond (p j) c 0) ≡ count_of n p * c
unfolding sum_below count_of
sum_of_count zero c p = sym (zero-mul c)
sum_of_count (suc n) c p = go (p n) (sum_of_count n c p)
  where
    go : (b : Bool) → sum_below n (λ j. cond (p j) c 0) ≡ count_of n p * c
        → sum_below n (λ j. cond (p j) c 0) + cond b c 0 ≡ (count_of n p + cond b 1 0) * c
    go true e = omega (arith, e, suc-mul (count_of n p) c, ap (λ (k : ℕ). k * c) (add-one (count_of n p)))
    go false e = omega (arith, e, ap (λ (k : ℕ). k * c) (add-zero (count_of n p)))

-- two sums, one inside the other, exchanged
pub sum_exchange : (n m : ℕ) (f : ℕ → ℕ → ℕ)
    → sum_below n (λ i. sum_below m (λ j. f i j)) ≡ sum_below m (λ j. sum_below n (λ i. f i j))
unfolding sum_below
sum_exchange n zero f = sum_constant n 0 ∙ mul-zero n
sum_exchange n (suc m) f =
    sum_add n (λ i. sum_below m (λ j. f i j)) (λ i. f i m)
    ∙ ap (λ (k : ℕ). k + sum_below n (λ i. f i m)) (sum_exchange n m f)

-- c at one place, and nothing elsewhere
sum-none : (n a c : ℕ) → n ≤ a → sum_below n (λ i. cond (eqb a i) c 0) ≡ 0
unfolding sum_below
sum-none zero a c h = refl
sum-none (suc n) a c h =
    let before = sum-none n a c (omega arith) in
    let here : cond (eqb a n) c 0 ≡ 0 = ap (λ (b : Bool). cond b c 0) (ne_eqb a n (λ e. omega (arith, e))) in
    omega (arith, before, here)

pub sum_one : (n a c : ℕ) → a < n → sum_below n (λ i. cond (eqb a i) c 0) ≡ c
unfolding sum_below
sum_one zero a c h = omega arith
sum_one (suc n) a c h = go (ℕ_discrete a n) (sum_one n a c)
  where
    go : Dec (a ≡ n) → (a < n → sum_below n (λ i. cond (eqb a i) c 0) ≡ c)
        → sum_below n (λ i. cond (eqb a i) c 0) + cond (eqb a n) c 0 ≡ c
    go (yes e) rest =
        let here : cond (eqb a n) c 0 ≡ c = ap (λ (b : Bool). cond b c 0) (eq-eqb a n e) in
        omega (arith, sum-none n a c (omega (arith, e)), here)
    go (no d) rest =
        let here : cond (eqb a n) c 0 ≡ 0 = ap (λ (b : Bool). cond b c 0) (ne_eqb a n d) in
        omega (arith, rest (omega (arith, d)), here)

-- Values by groups: each place is in one of n groups, and the sums of the groups add up to the sum.
pub sum_grouped : (n m : ℕ) (group f : ℕ → ℕ) → ((j : ℕ) → j < m → group j < n)
    → sum_below n (λ i. sum_below m (λ j. cond (eqb (group j) i) (f j) 0)) ≡ sum_below m f
sum_grouped n m group f inside =
    sum_exchange n m (λ i j. cond (eqb (group j) i) (f j) 0)
    ∙ sum_cong m _ f (λ j h. sum_one n (group j) (f j) (inside j h))
