-- The states of the root's set, in reading order: each once, and no other.
use Prim.Native.Nat.{ℕ, ◌≤◌, ◌<◌}
use mathlib.Core.Path.{◌≡◌, sym, subst}
use mathlib.Core.Bool.{true}
use mathlib.Core.Logic.{◌↔◌}
use mathlib.Core.List.{List, Memᴰ}
use native.Mathlib.Nat.{lt_of_lt_of_le}
use native.Mathlib.Omega.{arith}
use lib.ListN.{length, get_or}
use Rattle.sets.specs.Member.{count_of}
use Rattle.sets.proofs.SetOf.{count_of_inside}
use Rattle.table.specs.Table.{Table, initial_at}
use Rattle.table.specs.Facts.{Wellformed}
use Rattle.table.proofs.Numbers.{neither_less}
use Rattle.ctl.specs.Rule.{root_index}
use Rattle.ctl.specs.Labels.{marked}
use Rattle.ctl.proofs.Targets.{next_inside}
use Rattle.ctl.proofs.Meaning.{marked_kept}
use Rattle.ctl.proofs.Select.{in_select}
use Rattle.label.specs.ReadingOrder.{reading_order, ReadBefore, InReadingOrder}
use Rattle.label.specs.Calls.{held_states}
use Rattle.label.proofs.Pairwise.{pairwise_at}
use Rattle.label.proofs.ReadingOrder.{one_way, order_member, order_count, states_in_order, states-only}

module _ (T : Table) (list : List ℕ) where
  -- there are as many of them as the root marks
  pub held_count : length (held_states T list) ≡ count_of 32 (marked T list (root_index T))
  held_count = order_count (initial_at T) (marked T list (root_index T))

  -- they stand in reading order
  pub held_in_order : InReadingOrder (initial_at T) (held_states T list)
  held_in_order = states_in_order (initial_at T) (marked T list (root_index T))

  -- so no two of them are the same
  differ : (i j : ℕ) → i < j → j < length (held_states T list)
      → ¬ (get_or (held_states T list) i 0 ≡ get_or (held_states T list) j 0)
  differ i j l h e =
      let s = get_or (held_states T list) i 0 in
      let before = subst (λ (t : ℕ). ReadBefore (initial_at T) s t) (sym e)
      (pairwise_at (ReadBefore (initial_at T)) (held_states T list) held_in_order i j l h) in
      one_way (initial_at T) s s before before

  pub held_once : (i j : ℕ) → i < length (held_states T list) → j < length (held_states T list)
      → get_or (held_states T list) i 0 ≡ get_or (held_states T list) j 0 → i ≡ j
  held_once i j h l e = neither_less i j (λ less. differ i j less l e) (λ less. differ j i less h (sym e))

module _ (T : Table) (wf : Wellformed T) (list : List ℕ) where
  -- a state that the root marks is one of the table's
  root_inside : (s : ℕ) → marked T list (root_index T) s ≡ true → s < length T.states
  root_inside s e =
      let k = marked_kept T wf list (root_index T) (omega (arith, wf.some_node)) s e in
      (next_inside T wf list s k.0 k.1).0

  -- they are the states that the root marks
  pub held-member : (s : ℕ) → Memᴰ s (held_states T list) ↔ (marked T list (root_index T) s ≡ true)
  held-member s = (
    λ m. ((in_select (marked T list (root_index T)) (reading_order (initial_at T)) s).0 m).1,
    λ e. (in_select (marked T list (root_index T)) (reading_order (initial_at T)) s).1
        ((order_member (initial_at T) s).1 (lt_of_lt_of_le (root_inside s e) wf.few_states), e),
  )

  -- there are no more of them than states
  pub held_few : length (held_states T list) ≤ length T.states
  held_few =
      omega (arith, held_count T list, count_of_inside 32 (length T.states) (marked T list (root_index T)) root_inside)

  -- and no other list has them in reading order
  pub held-only : (states : List ℕ) → ((s : ℕ) → Memᴰ s states ↔ (marked T list (root_index T) s ≡ true))
      → InReadingOrder (initial_at T) states → states ≡ held_states T list
  held-only states each order =
      states-only (initial_at T) (marked T list (root_index T)) states
      (λ s. (λ m. (held-member s).1 ((each s).0 m), λ m. (each s).1 ((held-member s).0 m))) order
