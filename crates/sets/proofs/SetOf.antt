-- The set of the states that have a property, how many there are, and the lowest of them.
use mathlib.Core.Path.{◌≡◌, refl, sym, ap, ap₂, ◌∙◌}
use mathlib.Core.Bool.{Bool, true, false, cond, ◌&&◌, false≢true, and-eq-true_iff}
use mathlib.Core.Logic.{◌↔◌}
use Prim.Native.Nat.{ℕ, zero, suc, ◌+◌, ◌*◌, ◌/◌, ◌%◌, ◌^◌, ◌≤◌, ◌<◌, zero-le}
use native.Mathlib.Nat.{pow-suc, mod-lt, zero-lt-suc, not-suc-le-zero, le_of_suc-le-suc, lt_of_not-le}
use native.Mathlib.Numerals.{add-one}
use native.Mathlib.Decide.{ℕ_discrete}
use native.Mathlib.Omega.{arith}
use borrow.Author.Tests.{lt-ltb, ltb-true}
use lib.Dec.{eqb, ltb, leb-zero, leb-suc-zero, leb-suc-suc}
use lib.Count.{ones, ones_step, under, count_trailing_zeros}
use Rattle.sets.specs.Member.{member, set_of, count_of, lowest_of}
use Rattle.sets.proofs.Laws.{member_low, member_next, member-zero, member-digit, member_rest, half_lt, ext}

digit_power : (n : ℕ) (b : Bool) → cond b (2 ^ suc n) 0 ≡ cond b (2 ^ n) 0 * 2
digit_power n true = pow-suc 2 n
digit_power n false = refl

-- the set by its lowest state: the others are the set of the property one state on, doubled
pub set_of_low : (n : ℕ) (f : ℕ → Bool) → set_of (suc n) f ≡ set_of n (λ s. f (suc s)) * 2 + cond (f zero) 1 0
unfolding set_of
set_of_low zero f = refl
set_of_low (suc n) f =
    let low : set_of (suc n) f ≡ set_of n (λ s. f (suc s)) * 2 + cond (f zero) 1 0 = set_of_low n f in
    let top : cond (f (suc n)) (2 ^ suc n) 0 ≡ cond (f (suc n)) (2 ^ n) 0 * 2 = digit_power n (f (suc n)) in
    omega arith

digit-le : (b : Bool) → cond b 1 0 ≤ 1
digit-le true = omega arith
digit-le false = omega arith

-- it is a number of n bits
pub set_of-lt : (n : ℕ) (f : ℕ → Bool) → set_of n f < 2 ^ n
unfolding set_of
set_of-lt zero f = omega arith
set_of-lt (suc n) f =
    let rest : set_of n (λ s. f (suc s)) < 2 ^ n = set_of-lt n (λ s. f (suc s)) in
    omega (arith, set_of_low n f, pow-suc 2 n, digit-le (f zero))

-- its members are the states below n that have the property
pub member-set_of : (n : ℕ) (f : ℕ → Bool) (s : ℕ) → member (set_of n f) s ≡ ltb s n && f s
unfolding set_of
member-set_of zero f s = member-zero s ∙ sym (ap (λ (b : Bool). b && f s) (leb-suc-zero s))
member-set_of (suc n) f zero =
    ap (λ (x : ℕ). member x zero) (set_of_low n f)
    ∙ member-digit (set_of n (λ s. f (suc s))) (f zero)
    ∙ sym (ap (λ (b : Bool). b && f zero) (leb-suc-suc zero n ∙ leb-zero n))
member-set_of (suc n) f (suc s) =
    ap (λ (x : ℕ). member x (suc s)) (set_of_low n f)
    ∙ member_rest (set_of n (λ s. f (suc s))) (f zero) s
    ∙ member-set_of n (λ s. f (suc s)) s
    ∙ sym (ap (λ (b : Bool). b && f (suc s)) (leb-suc-suc (suc s) n))

-- a state below n is a member when it has the property
pub member-set_of-below : (n : ℕ) (f : ℕ → Bool) (s : ℕ) → s < n → member (set_of n f) s ≡ f s
member-set_of-below n f s h = member-set_of n f s ∙ ap (λ (b : Bool). b && f s) (lt-ltb s n h)

-- the members, and no other state
pub in_set : (n : ℕ) (f : ℕ → Bool) (s : ℕ) → (member (set_of n f) s ≡ true) ↔ ((s < n) × (f s ≡ true))
in_set n f s = (
  λ e. let r = (and-eq-true_iff (ltb s n) (f s)).0 (sym (member-set_of n f s) ∙ e) in (ltb-true s n r.0, r.1),
  λ r. member-set_of-below n f s r.0 ∙ r.1,
)

-- properties that agree below n have the same set
pub set_of_cong : (n : ℕ) (f g : ℕ → Bool) → ((s : ℕ) → s < n → f s ≡ g s) → set_of n f ≡ set_of n g
unfolding set_of
set_of_cong zero f g same = refl
set_of_cong (suc n) f g same =
    ap₂ (λ (x : ℕ) (b : Bool). x + cond b (2 ^ n) 0) (set_of_cong n f g (λ s h. same s (omega arith)))
    (same n (omega arith))

-- a number of n bits whose members are those with the property is the set of them
pub set_of_unique : (n : ℕ) (f : ℕ → Bool) (m : ℕ) → m < 2 ^ n → ((s : ℕ) → s < n → member m s ≡ f s) → m ≡ set_of n f
set_of_unique n f m h same =
    ext n m (set_of n f) h (set_of-lt n f) (λ s l. same s l ∙ sym (member-set_of-below n f s l))

-- a set is the set of its members
pub set_of-member : (w m : ℕ) → m < 2 ^ w → set_of w (member m) ≡ m
set_of-member w m h = sym (set_of_unique w (member m) m h (λ s l. refl))

-- a set with no member is 0
pub empty : (w m : ℕ) → m < 2 ^ w → ((s : ℕ) → s < w → member m s ≡ false) → m ≡ 0
empty w m h none = ext w m 0 h (omega arith) (λ s l. none s l ∙ sym (member-zero s))

-- the count by the lowest state
pub count_of_low : (n : ℕ) (f : ℕ → Bool) → count_of (suc n) f ≡ cond (f zero) 1 0 + count_of n (λ s. f (suc s))
unfolding count_of
count_of_low zero f = omega arith
count_of_low (suc n) f =
    let low : count_of (suc n) f ≡ cond (f zero) 1 0 + count_of n (λ s. f (suc s)) = count_of_low n f in
    omega arith

-- one state more
pub count_of_next : (n : ℕ) (f : ℕ → Bool) → count_of (n + 1) f ≡ count_of n f + cond (f n) 1 0
unfolding count_of
count_of_next n f = ap (λ (k : ℕ). count_of k f) (add-one n)

-- properties that agree below n have as many states
pub count_of_cong : (n : ℕ) (f g : ℕ → Bool) → ((s : ℕ) → s < n → f s ≡ g s) → count_of n f ≡ count_of n g
unfolding count_of
count_of_cong zero f g same = refl
count_of_cong (suc n) f g same =
    ap₂ (λ (x : ℕ) (b : Bool). x + cond b 1 0) (count_of_cong n f g (λ s h. same s (omega arith)))
    (same n (omega arith))

one_le : (a b : Bool) → (a ≡ true → b ≡ true) → cond a 1 0 ≤ cond b 1 0
one_le true true h = omega arith
one_le true false h = absurd (false≢true (h refl))
one_le false true h = omega arith
one_le false false h = omega arith

module _ (f g : ℕ → Bool) where
  count_le : (n : ℕ) → ((i : ℕ) → i < n → g i ≡ true → f i ≡ true) → count_of n g ≤ count_of n f
  unfolding count_of
  count_le zero sub = omega arith
  count_le (suc n) sub =
      let rest : count_of n g ≤ count_of n f = count_le n (λ i h. sub i (omega arith)) in
      omega (arith, one_le (g n) (f n) (sub n (omega arith)))

  -- fewer states have g than f, where all that have it have f and one that has f lacks it
  pub count_of_less : (n : ℕ) → ((i : ℕ) → i < n → g i ≡ true → f i ≡ true) → (j : ℕ) → j < n → f j ≡ true → g j ≡ false
      → count_of n g < count_of n f
  unfolding count_of
  count_of_less zero sub j h yes-f no-g = absurd (omega arith)
  count_of_less (suc n) sub j h yes-f no-g =
      go (ℕ_discrete j n) (count_le n (λ i l. sub i (omega arith)))
      (λ l. count_of_less n (λ i m. sub i (omega arith)) j l yes-f no-g)
    where
      go : Dec (j ≡ n) → count_of n g ≤ count_of n f → (j < n → count_of n g < count_of n f)
          → count_of n g + cond (g n) 1 0 < count_of n f + cond (f n) 1 0
      go (yes e) rest less = rw (sym (ap f e) ∙ yes-f, sym (ap g e) ∙ no-g) (omega arith)
      go (no d) rest less = omega (arith, less (omega arith), one_le (g n) (f n) (sub n (omega arith)))

-- no more than there are
pub count_of-le : (w : ℕ) (f : ℕ → Bool) → count_of w f ≤ w
unfolding count_of
count_of-le zero f = zero-le
count_of-le (suc w) f = go (f w) (count_of-le w f)
  where
    go : (b : Bool) → count_of w f ≤ w → count_of w f + cond b 1 0 ≤ suc w
    go true few = omega arith
    go false few = omega arith

-- where all states that have f are below n, there are at most n of them
pub count_of_inside : (w n : ℕ) (f : ℕ → Bool) → ((s : ℕ) → f s ≡ true → s < n) → count_of w f ≤ n
unfolding count_of
count_of_inside zero n f inside = zero-le
count_of_inside (suc w) n f inside = go (f w) refl (count_of_inside w n f inside)
  where
    go : (b : Bool) → f w ≡ b → count_of w f ≤ n → count_of w f + cond b 1 0 ≤ n
    go true e few = omega (arith, count_of-le w f, inside w e)
    go false e few = omega arith

-- properties that agree below n have the same lowest state
pub lowest_of_cong : (n : ℕ) (f g : ℕ → Bool) → ((s : ℕ) → s < n → f s ≡ g s) → lowest_of n f ≡ lowest_of n g
unfolding lowest_of
lowest_of_cong zero f g same = refl
lowest_of_cong (suc n) f g same =
    ap₂ (λ (b : Bool) (x : ℕ). cond b 0 (suc x)) (same zero (omega arith))
    (lowest_of_cong n (λ s. f (suc s)) (λ s. g (suc s)) (λ s h. same (suc s) (omega arith)))

-- the lowest digit of a set, as a test and as a number
low_digit : (m : ℕ) → m % 2 ≡ cond (member m zero) 1 0
low_digit m = go (m % 2) (mod-lt m (zero-lt-suc 1)) ∙ ap (λ (b : Bool). cond b 1 0) (sym (member_low m))
  where
    go : (x : ℕ) → x < 2 → x ≡ cond (eqb x 1) 1 0
    go zero h = refl
    go (suc zero) h = refl
    go (suc (suc x)) h = absurd (omega arith)

-- the set bits of a number are counted as the members of the set
pub ones_count : (w m : ℕ) → m < 2 ^ w → ones m ≡ count_of w (member m)
unfolding count_of ones
ones_count zero m h = let none : m ≡ 0 = omega arith in ap ones none
ones_count (suc w) m h =
    ones_step m
    ∙ ap₂ (λ (x y : ℕ). x + y) (low_digit m)
    (ones_count w (m / 2) (half_lt w m h)
    ∙ count_of_cong w (member (m / 2)) (λ s. member m (suc s)) (λ s l. sym (member_next m s)))
    ∙ sym (count_of_low w (member m))

-- the zeros below the lowest set bit of a number are counted to the lowest member of the set
pub zeros_lowest : (w m : ℕ) → count_trailing_zeros w m ≡ lowest_of w (member m)
unfolding count_trailing_zeros lowest_of
zeros_lowest zero m = refl
zeros_lowest (suc w) m =
    ap₂ under (low_digit m) (zeros_lowest w (m / 2)
    ∙ lowest_of_cong w (member (m / 2)) (λ s. member m (suc s)) (λ s l. sym (member_next m s)))
    ∙ go (member m zero)
  where
    go : (b : Bool)
        → under (cond b 1 0) (lowest_of w (λ s. member m (suc s)))
        ≡ cond b 0 (suc (lowest_of w (λ s. member m (suc s))))
    go true = refl
    go false = refl

-- no state below the lowest has the property
pub lowest_of_before : (n : ℕ) (f : ℕ → Bool) (s : ℕ) → s < lowest_of n f → f s ≡ false
unfolding lowest_of
lowest_of_before zero f s h = absurd (not-suc-le-zero h)
lowest_of_before (suc n) f s h = go (f zero) refl s h (lowest_of_before n (λ t. f (suc t)))
  where
    low : ℕ
    low = lowest_of n (λ t. f (suc t))

    go : (b : Bool) → f zero ≡ b → (s : ℕ) → s < cond b 0 (suc low) → ((t : ℕ) → t < low → f (suc t) ≡ false)
        → f s ≡ false
    go true e s h rest = absurd (not-suc-le-zero h)
    go false e zero h rest = e
    go false e (suc s) h rest = rest s (omega arith)

-- the lowest state has the property, where it is below n
pub lowest_of-has : (n : ℕ) (f : ℕ → Bool) → lowest_of n f < n → f (lowest_of n f) ≡ true
unfolding lowest_of
lowest_of-has zero f h = absurd (not-suc-le-zero h)
lowest_of-has (suc n) f h = go (f zero) refl h (lowest_of-has n (λ t. f (suc t)))
  where
    low : ℕ
    low = lowest_of n (λ t. f (suc t))

    go : (b : Bool) → f zero ≡ b → cond b 0 (suc low) < suc n → (low < n → f (suc low) ≡ true)
        → f (cond b 0 (suc low)) ≡ true
    go true e h rest = e
    go false e h rest = rest (omega arith)

-- a state with the property is not below the lowest
pub lowest_of_least : (n : ℕ) (f : ℕ → Bool) (s : ℕ) → f s ≡ true → lowest_of n f ≤ s
lowest_of_least n f s e = le_of_suc-le-suc (lt_of_not-le (λ h. false≢true (sym (lowest_of_before n f s h) ∙ e)))

-- the lowest member of a set that is not 0
lowest_found : (w m : ℕ) → m < 2 ^ w → ¬ (m ≡ 0) → lowest_of w (member m) < w
lowest_found w m h some = lt_of_not-le (λ l. some (empty w m h (λ s k. lowest_of_before w (member m) s (omega arith))))

-- a set that is not 0 has a member
pub some_member : (w m : ℕ) → m < 2 ^ w → ¬ (m ≡ 0) → (s : ℕ) × (s < w) × (member m s ≡ true)
some_member w m h some =
    (lowest_of w (member m), lowest_found w m h some, lowest_of-has w (member m) (lowest_found w m h some))
