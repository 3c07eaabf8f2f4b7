-- Sets of at most 32 states, as words and as properties: the operations on words, and a set of fewer states as one of
-- 32.
use Prim.Native.Nat.{ℕ, ◌-◌, ◌^◌, ◌≤◌, ◌<◌}
use mathlib.Core.Path.{◌≡◌, sym, ap, ap₂, ◌∙◌}
use mathlib.Core.Bool.{Bool, false, not, ◌&&◌, ◌||◌}
use native.Mathlib.Nat.{lt_of_lt_of_le}
use native.Mathlib.Decide.{dec_lt}
use native.Mathlib.Omega.{arith}
use borrow.Author.Tests.{lt-ltb, le-ltb}
use lib.Dec.{ltb}
use lib.Bits.{bit_and, bit_or, and_lt, or_lt}
use lib.Pow.{pow_mono, ones_sub-lt}
use Rattle.sets.specs.Member.{member, set_of}
use Rattle.sets.proofs.Laws.{member-and, member-or, member_complement}
use Rattle.sets.proofs.SetOf.{set_of-lt, member-set_of, member-set_of-below, set_of_unique}
use Rattle.ctl.specs.Range.{tabulate}
use Rattle.ctl.specs.Levels.{has}
use Rattle.ctl.proofs.Tabulate.{get_d_tabulate, get_d_tabulate_past}
use Rattle.label.specs.Words.{full}

module _ (f g : ℕ → Bool) where
  -- the meet of two words
  pub and_word : bit_and (set_of 32 f) (set_of 32 g) ≡ set_of 32 (λ s. f s && g s)
  and_word =
      set_of_unique 32 (λ s. f s && g s) (bit_and (set_of 32 f) (set_of 32 g))
      (and_lt 32 (set_of 32 f) (set_of 32 g) (set_of-lt 32 f) (set_of-lt 32 g))
      (λ s h. member-and (set_of 32 f) (set_of 32 g) s
      ∙ ap₂ ◌&&◌ (member-set_of-below 32 f s h) (member-set_of-below 32 g s h))

  -- the join of two words
  pub or_word : bit_or (set_of 32 f) (set_of 32 g) ≡ set_of 32 (λ s. f s || g s)
  or_word =
      set_of_unique 32 (λ s. f s || g s) (bit_or (set_of 32 f) (set_of 32 g))
      (or_lt 32 (set_of 32 f) (set_of 32 g) (set_of-lt 32 f) (set_of-lt 32 g))
      (λ s h. member-or (set_of 32 f) (set_of 32 g) s
      ∙ ap₂ ◌||◌ (member-set_of-below 32 f s h) (member-set_of-below 32 g s h))

-- the states that are not in a word
pub member-not : (X t : ℕ) → X < 2 ^ 32 → t < 32 → member (full - X) t ≡ not (member X t)
member-not X t h l = member_complement 32 X t h ∙ ap (λ (b : Bool). b && not (member X t)) (lt-ltb t 32 l)

-- the complement of a word
pub not_word : (f : ℕ → Bool) → full - set_of 32 f ≡ set_of 32 (λ s. not (f s))
not_word f = set_of_unique 32 (λ s. not (f s)) (full - set_of 32 f) (ones_sub-lt 32 (set_of 32 f))
    (λ s h. member-not (set_of 32 f) s (set_of-lt 32 f) h ∙ ap not (member-set_of-below 32 f s h))

-- a set of n states is one of 32 in which no state from n on is
pub wider : (n : ℕ) (f g : ℕ → Bool) → n ≤ 32 → ((s : ℕ) → s < n → f s ≡ g s) → ((s : ℕ) → n ≤ s → g s ≡ false)
    → set_of n f ≡ set_of 32 g
wider n f g few same none =
    set_of_unique 32 g (set_of n f) (lt_of_lt_of_le (set_of-lt n f) (pow_mono few))
    (λ s h. member-set_of n f s ∙ go s (dec_lt s n))
  where
    go : (s : ℕ) → Dec (s < n) → ltb s n && f s ≡ g s
    go s (yes h) = ap (λ (b : Bool). b && f s) (lt-ltb s n h) ∙ same s h
    go s (no h) = ap (λ (b : Bool). b && f s) (le-ltb s n (omega arith)) ∙ sym (none s (omega arith))

-- a set of n states as the list of its marks
pub word_of_marks : (n : ℕ) (f : ℕ → Bool) → n ≤ 32 → set_of n f ≡ set_of 32 (has (tabulate n f))
word_of_marks n f few =
    wider n f (has (tabulate n f)) few (λ s h. sym (get_d_tabulate n f s false h))
    (λ s h. get_d_tabulate_past n f s false h)
