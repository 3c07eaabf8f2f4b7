-- `write_ascending` meets its contract: as long as states are left, the lowest of them is the next.
use Prim.Native.Nat.{ℕ, ◌+◌, ◌^◌, ◌≤◌, ◌<◌}
use mathlib.Core.Path.{◌≡◌, refl, sym, ap, ◌∙◌}
use mathlib.Core.Bool.{not, ◌&&◌}
use mathlib.Core.List.{List, head-eq_of_cons-eq, tail-eq_of_cons-eq}
use mathlib.Core.Logic.{inl}
use native.Mathlib.Numerals.{add-one}
use native.Mathlib.Omega.{arith}
use lib.Dec.{eqb}
use Rattle.std.proofs.Common.{rules}
use lib.ListN.{length, get_or, drop, set, length-drop}
use lib.Seq.{drop-cons}
use Rattle.sets.specs.Member.{member, set_of, lowest_of, count_of}
use Rattle.sets.proofs.SetOf.{set_of-lt, count_of-le}
use Rattle.sets.proofs.Walk.{lowest_below, left_first, left_fewer}
use Rattle.table.specs.Buffer.{over}
use Rattle.table.proofs.Buffer.{over_next, over-length, over-all}
use Rattle.ctl.specs.Range.{below}
use Rattle.label.specs.ReadingOrder.{states_with}
use Rattle.label.proofs.Lowest.{lowest_first, no-states}
use Rattle.label.proofs.Select.{select_count}
use Rattle.label.proofs.holding.write_ascending.Goals as goal

-- the states of a set, ascending
abbrev ascending : ℕ → List ℕ
ascending set = states_with (below 32) (member set)

-- there are as many of them as the count says
counted : (set k : ℕ) → k ≡ count_of 32 (member set) → k ≡ length (ascending set)
counted set k e = e ∙ sym (select_count (member set) 32 (λ s. s))

-- at a turn: the lowest member left is the next state, and the others are those without it
record Turn (vs : List ℕ) (i left : ℕ) : Type 0 where
  lowest : lowest_of 32 (member left) < 32
  first : get_or vs i 0 ≡ lowest_of 32 (member left)
  rest : ascending (set_of 32 (λ t. member left t && not (eqb t (lowest_of 32 (member left))))) ≡ drop (i + 1) vs

turn : (vs : List ℕ) (i left : ℕ) → i < length vs → ascending left ≡ drop i vs → left < 2 ^ 32 → Turn vs i left
turn vs i left h e small =
    let some : ¬ (left ≡ 0) = λ z. let none = ap length (sym e ∙ ap ascending z ∙ no-states) in
    omega (arith, none, length-drop i vs) in
    let low = lowest_below left small some in
    let both = sym (lowest_first left low) ∙ e ∙ drop-cons vs i 0 h in
    record {
      lowest = low;
      first = sym (head-eq_of_cons-eq both);
      rest = tail-eq_of_cons-eq both ∙ ap (λ (k : ℕ). drop k vs) (sym (add-one i));
    }

-- the iterator goes on: it has given no more than 32 states, and no more than 32 are left
few : (set left i : ℕ) → i ≤ length (ascending set) → i + count_of 32 (member left) < 2 ^ 64
few set left i h =
    omega (
      arith,
      counted set (count_of 32 (member set)) refl,
      count_of-le 32 (member set),
      count_of-le 32 (member left),
    )

-- where a state is left, not all are written
not_all : (set left s i : ℕ) → left < 2 ^ 32 → ¬ (left ≡ 0) → s ≡ lowest_of 32 (member left)
    → ascending left ≡ drop i (ascending set) → i < length (ascending set)
not_all set left s i small some low e =
    omega (
      arith,
      left_fewer left left s (left_first left small) some low,
      counted left (count_of 32 (member left)) refl,
      ap length e,
      length-drop i (ascending set),
    )

pub loop-i-init : goal.loop-i-init
loop-i-init c =
    let a = c.args in
    let items = c.enumerate-i-items in
    let same = c.into_iter-i-iterator.ensures.into_iter_gives in
    let zero : c.into_iter-i-iterator.result.count ≡ 0 = search rules in
    let all : c.into_iter-i-iterator.result.iter.left ≡ a.set = search rules in
    let vs = ascending a.set in
    let inside : c.into_iter-i-iterator.result.count ≤ length vs = omega (arith, zero) in
    record {
      goes_on = (
        (
          tt,
          tt,
          inl (few a.set c.into_iter-i-iterator.result.iter.left c.into_iter-i-iterator.result.count inside),
        ),
        tt,
      );
      inside = inside;
      written = ap (λ (k : ℕ). over k vs a.out.now) (sym zero);
      others = ap ascending all ∙ ap (λ (k : ℕ). drop k vs) (sym zero);
      small = omega (arith, all, c.ranges.set.fits);
    }

pub overflow_cast-out : goal.overflow_cast-out
overflow_cast-out c = omega (arith, c.in-Some.ensures.steps.0.0)

pub bounds-out-i : goal.bounds-out-i
bounds-out-i c =
    let l = c.loop-i in
    let vs = ascending c.args.set in
    let next = c.in-Some.ensures.steps in
    let i = l.i-iterator.count in
    let inside = not_all c.args.set l.i-iterator.iter.left c.in-Some.s i l.invariant.small next.0.1 next.0.2
    l.invariant.others in
    omega (
      arith,
      inside,
      next.1,
      ap length l.invariant.written,
      over-length i vs c.args.out.now (omega (arith, inside)) (omega (arith, inside, c.requires)),
    )

pub loop-i-preserved : goal.loop-i-preserved
loop-i-preserved c =
    let l = c.loop-i in
    let a = c.args in
    let vs = ascending a.set in
    let next = c.in-Some.ensures.steps in
    let i = l.i-iterator.count in
    let left = l.i-iterator.iter.left in
    let inside = not_all a.set left c.in-Some.s i l.invariant.small next.0.1 next.0.2 l.invariant.others in
    let t = turn vs i left inside l.invariant.others l.invariant.small in
    let gone : c.next.new.self.iter.left ≡ set_of 32 (λ k. member left k && not (eqb k (lowest_of 32 (member left)))) =
    next.0.3 ∙ ap (λ (s : ℕ). set_of 32 (λ k. member left k && not (eqb k s))) next.0.2 in
    let more = next.2 in
    let further : c.next.new.self.count ≤ length vs = omega (arith, inside, more) in
    record {
      goes_on = ((tt, tt, inl (few a.set c.next.new.self.iter.left c.next.new.self.count further)), tt);
      inside = further;
      written =
          (λ j. set (l.invariant.written j) (next.1 j) ((next.0.2 ∙ sym t.first) j))
          ∙ over_next i vs a.out.now 0 inside (omega (arith, inside, c.requires))
          ∙ ap (λ (k : ℕ). over k vs a.out.now) (sym more);
      others = ap ascending gone ∙ t.rest ∙ ap (λ (k : ℕ). drop k vs) (sym more);
      small = rw gone (set_of-lt 32 (λ k. member left k && not (eqb k (lowest_of 32 (member left)))));
    }

pub returns : goal.returns
returns c =
    let l = c.loop-i in
    let vs = ascending c.args.set in
    let i = l.i-iterator.count in
    let none = c.in-None.ensures.steps.0.0 in
    let rest = ap length (sym l.invariant.others ∙ ap ascending none ∙ no-states) in
    let done : i ≡ length vs = omega (arith, rest, length-drop i vs, l.invariant.inside) in
    l.invariant.written ∙ ap (λ (k : ℕ). over k vs c.args.out.now) done ∙ over-all vs c.args.out.now
