-- `ahead` meets its contract: the two sets are collected, one member of the given set after the other.
use Prim.Native.Nat.{ℕ}
use mathlib.Core.Path.{◌≡◌, sym, ap, subst, ◌∙◌}
use mathlib.Core.Bool.{not}
use lib.Bits.{bit_and}
use lib.Dec.{eqb}
use lib.ListN.{get_or}
use Rattle.sets.specs.declared.members.Members.{Members}
use Rattle.sets.proofs.Walk.{Left, left_first, left_next, collect_first, collect_next, collect_last}
use Rattle.rows.specs.declared.row.Row.{Row}
use Rattle.rows.specs.Rules.{unmet}
use Rattle.rows.proofs.next.ahead.Invariants.{is_met, is_lost, found}
use Rattle.rows.proofs.next.ahead.Goals as goal

pub loop-s-init : goal.loop-s-init
loop-s-init c =
    let a = c.args in
    let met = is_met a.targets.now a.rows.now a.end in
    let lost = is_lost a.rows.now a.end in
    let all = ap (λ (m : Members). m.left) c.into_iter-s-iterator.ensures.into_iter_gives
    ∙ c.members_of-s-items.ensures in
    subst (λ (w : ℕ). Left a.set w × (0 ≡ found a.set w met) × (0 ≡ found a.set w lost)) (sym all)
    (left_first a.set c.ranges.set.fits, collect_first a.set met, collect_first a.set lost)

pub loop-s-preserved : goal.loop-s-preserved
loop-s-preserved c =
    let a = c.args in
    let l = c.loop-s in
    let left = l.s-iterator.left in
    let s = c.in-Some.s in
    let next = c.in-Some.ensures.steps in
    let x = c.step_row-x in
    let met = is_met a.targets.now a.rows.now a.end in
    let lost = is_lost a.rows.now a.end in (
      subst (Left a.set) (sym next.3) (left_next a.set left s l.invariant.0 next.1 next.2),
      c.insert_if-yes.ensures
          ∙ collect_next a.set left s l.invariant.0 next.1 next.2 met l.yes _ l.invariant.1
          (ap (λ (r : Row). eqb (unmet (get_or a.targets.now s 0) r a.end) 0) x.ensures)
          ∙ ap (λ (w : ℕ). found a.set w met) (sym next.3),
      c.insert_if-no.ensures
          ∙ collect_next a.set left s l.invariant.0 next.1 next.2 lost l.no _ l.invariant.2
          (ap (λ (r : Row). not (eqb (bit_and r.yes a.end.no) 0)) x.ensures)
          ∙ ap (λ (w : ℕ). found a.set w lost) (sym next.3),
    )

pub returns : goal.returns
returns c =
    let a = c.args in
    let l = c.loop-s in
    let left = l.s-iterator.left in
    let none = c.in-None.ensures.steps.0 in
    λ i. record {
      yes = (l.invariant.1 ∙ collect_last a.set left (is_met a.targets.now a.rows.now a.end) none) i;
      no = (l.invariant.2 ∙ collect_last a.set left (is_lost a.rows.now a.end) none) i;
    }
