-- The lowest number below n that has f, where there is one, known by the numbers before it.
use Prim.Native.Nat.{ℕ, ◌<◌, ◌≤◌}
use mathlib.Core.Path.{◌≡◌, refl, sym, ap, ◌∙◌}
use mathlib.Core.Bool.{Bool, true, false, false≢true}
use native.Mathlib.Decide.{dec_lt}
use native.Mathlib.Omega.{arith}
use borrow.Author.Tests.{lt-ltb, le-ltb, ltb-true, ltb-false}
use lib.Dec.{ltb}
use Rattle.std.specs.Prelude.{Option, None, Some}
use Rattle.std.specs.Bool.{then_some}
use Rattle.std.proofs.lemmas.Option.{none-some, same_Some}
use Rattle.sets.specs.Member.{lowest_of}
use Rattle.sets.proofs.SetOf.{lowest_of-has, lowest_of_least}

module _ (n : ℕ) (f : ℕ → Bool) where
  -- the lowest, where there is one
  abbrev Lowest : Option ℕ
  Lowest = then_some (ltb (lowest_of n f) n) (lowest_of n f)

  -- none before it has f, and it has
  pub lowest_here : (j : ℕ) → j < n → ((i : ℕ) → i < j → f i ≡ false) → f j ≡ true → Some j ≡ Lowest
  lowest_here j h before here =
      let same = go (dec_lt (lowest_of n f) j) in
      ap Some same ∙ ap (λ (b : Bool). then_some b (lowest_of n f))
      (sym (lt-ltb (lowest_of n f) n (omega (arith, same))))
    where
      go : Dec (lowest_of n f < j) → j ≡ lowest_of n f
      go (yes l) = absurd (false≢true (sym (before (lowest_of n f) l) ∙ lowest_of-has n f (omega arith)))
      go (no l) = omega (arith, lowest_of_least n f j here)

  -- none has f
  pub lowest_nowhere : ((i : ℕ) → i < n → f i ≡ false) → None ≡ Lowest
  lowest_nowhere before = go (dec_lt (lowest_of n f) n)
    where
      go : Dec (lowest_of n f < n) → None ≡ Lowest
      go (yes l) = absurd (false≢true (sym (before (lowest_of n f) l) ∙ lowest_of-has n f l))
      go (no l) = ap (λ (b : Bool). then_some b (lowest_of n f)) (sym (le-ltb (lowest_of n f) n (omega (arith, l))))

-- ---- what is known of the lowest

-- there is one: it is that, and below n
pub lowest_some : (n : ℕ) (f : ℕ → Bool) (j : ℕ) → Some j ≡ then_some (ltb (lowest_of n f) n) (lowest_of n f)
    → (j ≡ lowest_of n f) × (j < n)
lowest_some n f j e = go (ltb (lowest_of n f) n) refl e
  where
    go : (b : Bool) → ltb (lowest_of n f) n ≡ b → Some j ≡ then_some b (lowest_of n f) → (j ≡ lowest_of n f) × (j < n)
    go true t s = let same = same_Some j (lowest_of n f) s in (same, omega (arith, same, ltb-true (lowest_of n f) n t))
    go false t s = absurd (none-some j (sym s))

-- there is none
pub lowest_none : (n : ℕ) (f : ℕ → Bool) → None ≡ then_some (ltb (lowest_of n f) n) (lowest_of n f) → n ≤ lowest_of n f
lowest_none n f e = go (ltb (lowest_of n f) n) refl e
  where
    go : (b : Bool) → ltb (lowest_of n f) n ≡ b → None ≡ then_some b (lowest_of n f) → n ≤ lowest_of n f
    go true t s = absurd (none-some (lowest_of n f) s)
    go false t s = ltb-false (lowest_of n f) n t
