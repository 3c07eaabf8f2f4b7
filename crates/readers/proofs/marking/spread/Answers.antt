-- `spread` meets its contract: the readers of each member are added, one member after the other.
use Prim.Native.Nat.{ℕ}
use mathlib.Core.Path.{◌≡◌, sym, subst}
use mathlib.Core.Bool.{true}
use mathlib.Core.Logic.{inl, inr}
use lib.Bits.{bit_or}
use lib.ListN.{get_or}
use Rattle.sets.specs.Member.{member}
use Rattle.sets.proofs.Walk.{Left, left_next}
use Rattle.rows.proofs.RowLaws.{or-true}
use Rattle.readers.proofs.MarkLaws.{Gone, gone_next, gone_last}
use Rattle.readers.proofs.marking.spread.Invariants.{Spread}
use Rattle.readers.proofs.marking.spread.Goals as goal

pub loop-t-preserved : goal.loop-t-preserved
loop-t-preserved c =
    let a = c.args in
    let l = c.loop-t in
    let t = c.in-Some.t in
    let next = c.in-Some.ensures.steps in
    let more = get_or a.readers.now.of t 0 in
    let all = bit_or l.all more in
    let stays : (s : ℕ) → member l.all s ≡ true → member all s ≡ true = λ s m. (or-true l.all more s).1 (inl m) in (
      subst (Left a.set) (sym next.3) (left_next a.set l.t-iterator.left t l.invariant.0 next.1 next.2),
      λ u m. stays u (l.invariant.1 u m),
      subst (λ (w : ℕ). Gone a.set w (Spread a.readers.now.of all)) (sym next.3)
          (gone_next a.set l.t-iterator.left t (Spread a.readers.now.of l.all) (Spread a.readers.now.of all)
          (λ u p s m. stays s (p s m)) l.invariant.2 (λ s m. (or-true l.all more s).1 (inr m))),
    )

pub returns-clause-behind : goal.returns-clause-behind
returns-clause-behind c = λ t s m. gone_last _ c.loop-t.t-iterator.left _ c.ranges.set.fits c.in-None.ensures.steps.0
    c.loop-t.invariant.2 t m s
