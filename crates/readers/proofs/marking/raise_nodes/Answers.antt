-- `raise_nodes` meets its contract: each node named has what is put into its words, one after the other.
use Prim.Native.Nat.{ℕ}
use mathlib.Core.Path.{sym, subst}
use Rattle.sets.proofs.Walk.{Left, left_next}
use Rattle.readers.proofs.MarkLaws.{raised_then, Gone, gone_next, gone_last}
use Rattle.readers.proofs.marking.raise_nodes.Invariants.{AllHave, FirstHas}
use Rattle.readers.proofs.marking.raise_nodes.Goals as goal

pub loop-i-preserved : goal.loop-i-preserved
loop-i-preserved c =
    let a = c.args in
    let r = a.readers.now in
    let l = c.loop-i in
    let i = c.in-Some.i in
    let left = l.i-iterator.left in
    let next = c.in-Some.ensures.steps in
    let looks = c.raise_node.new.looks in
    let node = c.raise_node.ensures in
    record {
      left = subst (Left a.nodes) (sym next.3) (left_next a.nodes left i l.invariant.left next.1 next.2);
      raised = raised_then l.invariant.raised node.raised;
      all = subst (λ (w : ℕ). Gone a.nodes w (AllHave r looks a.set)) (sym next.3)
          (gone_next a.nodes left i (AllHave r l.looks a.set) (AllHave r looks a.set)
          (λ j p k s o m. node.raised.stays k s (p k s o m)) l.invariant.all node.added);
      first = subst (λ (w : ℕ). Gone a.nodes w (FirstHas r looks a.more)) (sym next.3)
          (gone_next a.nodes left i (FirstHas r l.looks a.more) (FirstHas r looks a.more)
          (λ j p s o m. node.raised.stays _ s (p s o m)) l.invariant.first node.first);
    }

pub returns-clause-added : goal.returns-clause-added
returns-clause-added c = λ i k s m. gone_last _ c.loop-i.i-iterator.left _ c.ranges.nodes.fits
    c.in-None.ensures.steps.0 c.loop-i.invariant.all i m k s

pub returns-clause-first : goal.returns-clause-first
returns-clause-first c = λ i s m. gone_last _ c.loop-i.i-iterator.left _ c.ranges.nodes.fits c.in-None.ensures.steps.0
    c.loop-i.invariant.first i m s
