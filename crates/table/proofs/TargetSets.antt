-- The ends of the steps out of each state: the element at a state, and that the rows of all steps are these sets.
use Prim.Native.Nat.{ℕ, zero, suc, ◌+◌, ◌<◌}
use mathlib.Core.Path.{◌≡◌, refl, sym, ap, ◌∙◌}
use mathlib.Core.List.{List}
use native.Mathlib.Nat.{not-suc-le-zero, le_of_suc-le-suc}
use native.Mathlib.Omega.{arith}
use lib.ListN.{length, get_or}
use lib.Seq.{ext_get_or}
use Rattle.sets.specs.Member.{member}
use Rattle.sets.proofs.SetOf.{set_of-lt, set_of_unique, member-set_of-below}
use Rattle.table.specs.declared.record.Step.{Step}
use Rattle.table.specs.Rows.{Rows, target_set, targets_from, target_sets}

module _ (xs : List Step) where
  from_length : (s count : ℕ) → length (targets_from xs s count) ≡ count
  unfolding targets_from
  from_length s zero = refl
  from_length s (suc count) = ap suc (from_length (suc s) count)

  from_at : (s count i : ℕ) → i < count → get_or (targets_from xs s count) i 0 ≡ target_set xs (s + i)
  unfolding targets_from
  from_at s zero i h = absurd (not-suc-le-zero h)
  from_at s (suc count) zero h = ap (target_set xs) (omega arith)
  from_at s (suc count) (suc i) h = from_at (suc s) count i (le_of_suc-le-suc h) ∙ ap (target_set xs) (omega arith)

  -- a set for each of 32 states
  pub targets-length : length (target_sets xs) ≡ 32
  unfolding target_sets
  targets-length = from_length 0 32

  pub targets_at : (s : ℕ) → s < 32 → get_or (target_sets xs) s 0 ≡ target_set xs s
  unfolding target_sets
  targets_at s h = from_at 0 32 s h ∙ ap (target_set xs) (omega arith)

  -- a table of bits for all steps has these sets as its rows
  pub rows_targets : (rows : List ℕ) → Rows rows xs → rows ≡ target_sets xs
  unfolding target_set
  rows_targets rows g = ext_get_or 0 rows (target_sets xs) (g.size ∙ sym targets-length) (λ s h.
      let below : s < 32 = omega (arith, g.size) in
      set_of_unique 32 _ (get_or rows s 0) (g.words s below) (λ t l. g.bits s t below l) ∙ sym (targets_at s below))

  -- and these sets are the rows of such a table
  pub targets_rows : Rows (target_sets xs) xs
  unfolding target_set
  targets_rows = record {
    size = targets-length;
    words = λ s h. rw (targets_at s h) (set_of-lt 32 _);
    bits = λ s t h l. ap (λ (m : ℕ). member m t) (targets_at s h) ∙ member-set_of-below 32 _ t l;
  }
