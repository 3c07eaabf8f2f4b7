-- `write_states` meets its contract: the two parts of the set, one behind the other, are its states in reading order.
use Prim.Native.Nat.{ℕ, ◌+◌, ◌-◌, ◌≤◌}
use mathlib.Core.Path.{◌≡◌, sym, ap, ap₂, ◌∙◌}
use mathlib.Core.Bool.{not, ◌&&◌}
use mathlib.Core.List.{List, ◌++◌}
use native.Mathlib.Omega.{arith}
use lib.ListN.{length, take, drop, length-append, length-drop}
use Rattle.sets.specs.Member.{member, set_of, count_of}
use Rattle.table.proofs.Buffer.{part_behind, put_behind, front_behind}
use Rattle.ctl.specs.Range.{below}
use Rattle.label.specs.ReadingOrder.{reading_order, states_with}
use Rattle.label.proofs.Select.{select_count}
use Rattle.label.proofs.ReadingOrder.{order_sets}
use Rattle.label.proofs.holding.write_states.Goals as goal

-- the states of a set, ascending
abbrev ascending : ℕ → List ℕ
ascending set = states_with (below 32) (member set)

-- and in reading order
abbrev ordered : ℕ → ℕ → List ℕ
ordered set initial = states_with (reading_order (member initial)) (member set)

-- the two parts: first those that the set shares with the initial ones, k of them, then the others; the buffer has
-- room for both
module _ (set initial : ℕ) (out : List ℕ) {first others k : ℕ}
    (f : first ≡ set_of 32 (λ t. member set t && member initial t))
    (o : others ≡ set_of 32 (λ t. member set t && not (member initial t)))
    (n : k ≡ count_of 32 (member first)) (room : length (ordered set initial) ≤ length out) where
  states : ordered set initial ≡ ascending first ++ ascending others
  states = order_sets set initial ∙ sym (ap₂ (λ (x y : ℕ). ascending x ++ ascending y) f o)

  size : k ≡ length (ascending first)
  size = n ∙ sym (select_count (member first) 32 (λ s. s))

  both_fit : length (ascending first) + length (ascending others) ≤ length out
  both_fit = omega (arith, ap length states, length-append (ascending first) (ascending others), room)

  first_room : length (ascending first) ≤ length out
  first_room = omega (arith, both_fit)

  -- what the second call is lent, and what the buffer holds after it
  module _ {mid : List ℕ} (e : mid ≡ ascending first ++ drop (length (ascending first)) out) where
    first_fits : k ≤ length mid
    first_fits =
        omega (
          arith,
          size,
          both_fit,
          ap length e,
          length-append (ascending first) (drop (length (ascending first)) out),
          length-drop (length (ascending first)) out,
        )

    lent : take (length mid - k) (drop k mid) ≡ drop (length (ascending first)) out
    lent =
        (λ i. take (length (e i) - size i) (drop (size i) (e i)))
        ∙ part_behind (ascending first) (drop (length (ascending first)) out)

    others_fit : length (ascending others) ≤ length (take (length mid - k) (drop k mid))
    others_fit = omega (arith, both_fit, ap length lent, length-drop (length (ascending first)) out)

    whole : {after : List ℕ}
        → after ≡ ascending others ++ drop (length (ascending others)) (take (length mid - k) (drop k mid))
        → take k mid ++ (after ++ drop (length mid - k) (drop k mid))
        ≡ ordered set initial ++ drop (length (ordered set initial)) out
    whole {after} w =
        (λ i. take (size i) (e i) ++ (after ++ drop (length (e i) - size i) (drop (size i) (e i))))
        ∙ put_behind (ascending first) (drop (length (ascending first)) out) after
        ∙ ap (λ (xs : List ℕ). ascending first ++ xs)
        (w ∙ ap (λ (xs : List ℕ). ascending others ++ drop (length (ascending others)) xs) lent)
        ∙ front_behind (ascending first) (ascending others) out
        ∙ ap (λ (xs : List ℕ). xs ++ drop (length xs) out) (sym states)

pub write_ascending-requires : goal.write_ascending-requires
write_ascending-requires c =
    first_room c.args.set c.args.initial c.args.out.now c.intersection-first.ensures c.minus-others.ensures
    c.count-k.ensures c.requires

pub slice_bounds-write_ascending-count : goal.slice_bounds-write_ascending-count
slice_bounds-write_ascending-count c =
    first_fits c.args.set c.args.initial c.args.out.now c.intersection-first.ensures c.minus-others.ensures
    c.count-k.ensures c.requires c.write_ascending.ensures

pub slice_bounds-write_ascending-start : goal.slice_bounds-write_ascending-start
slice_bounds-write_ascending-start c =
    first_fits c.args.set c.args.initial c.args.out.now c.intersection-first.ensures c.minus-others.ensures
    c.count-k.ensures c.requires c.write_ascending.ensures

pub write_ascending-requires-2 : goal.write_ascending-requires-2
write_ascending-requires-2 c =
    others_fit c.args.set c.args.initial c.args.out.now c.intersection-first.ensures c.minus-others.ensures
    c.count-k.ensures c.requires c.write_ascending.ensures

pub returns : goal.returns
returns c =
    whole c.args.set c.args.initial c.args.out.now c.intersection-first.ensures c.minus-others.ensures c.count-k.ensures
    c.requires c.write_ascending.ensures c.write_ascending-2.ensures
