-- A set of states as a number, of which bit s says whether s is in the set.
use Rattle.std.specs.Prelude.{
  ℕ,
  zero,
  suc,
  ◌+◌,
  ◌/◌,
  ◌%◌,
  ◌^◌,
  ◌<◌,
  ◌≡◌,
  Bool,
  cond,
  not,
  ◌&&◌,
  Option,
  Some,
  None,
  eqb,
}

-- s is in the set m: bit s of m
unfoldable pub member : ℕ → ℕ → Bool
member m s = eqb (m / 2 ^ s % 2) 1

-- the set of the states below n of which f is true, as a number
unfoldable pub set_of : ℕ → (ℕ → Bool) → ℕ
set_of zero f = 0
set_of (suc n) f = set_of n f + cond (f n) (2 ^ n) 0

-- how many states below n have f
unfoldable pub count_of : ℕ → (ℕ → Bool) → ℕ
count_of zero f = 0
count_of (suc n) f = count_of n f + cond (f n) 1 0

-- the least state below n that has f, and n where none has it
unfoldable pub lowest_of : ℕ → (ℕ → Bool) → ℕ
lowest_of zero f = 0
lowest_of (suc n) f = cond (f 0) 0 (suc (lowest_of n (λ s. f (suc s))))

-- the next member of what is left: the lowest, and the others stay; none where nothing is left
abbrev pub NextMember : ℕ → Option ℕ → ℕ → Type 0
NextMember left None after = (left ≡ 0) × (after ≡ 0)
NextMember left (Some s) after =
    (s < 32) × (¬ (left ≡ 0)) × (s ≡ lowest_of 32 (member left))
    × (after ≡ set_of 32 (λ t. member left t && not (eqb t s)))
