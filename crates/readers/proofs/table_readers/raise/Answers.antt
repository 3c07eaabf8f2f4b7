-- `raise` meets its contract: the word of each state named grows by the set, one after the other.
use Prim.Native.Nat.{ℕ}
use mathlib.Core.Path.{sym, subst}
use Rattle.sets.proofs.Walk.{Left, left_next}
use Rattle.readers.proofs.MarkLaws.{raised_then, Has, Gone, gone_next, gone_last}
use Rattle.readers.proofs.table_readers.raise.Goals as goal

pub loop-t-preserved : goal.loop-t-preserved
loop-t-preserved c =
    let a = c.args in
    let l = c.loop-t in
    let t = c.in-Some.t in
    let next = c.in-Some.ensures.steps in
    let put = c.put in (
      subst (Left a.states) (sym next.3) (left_next a.states l.t-iterator.left t l.invariant.0 next.1 next.2),
      raised_then l.invariant.1 put.ensures.raised,
      subst (λ (w : ℕ). Gone a.states w (Has put.new.words a.set)) (sym next.3)
          (gone_next a.states l.t-iterator.left t (Has l.readers a.set) (Has put.new.words a.set)
          (λ i p s m. put.ensures.raised.stays i s (p s m)) l.invariant.2 put.ensures.added),
    )

pub returns-clause-added : goal.returns-clause-added
returns-clause-added c = λ i s m. gone_last _ c.loop-t.t-iterator.left _ c.ranges.states.fits c.in-None.ensures.steps.0
    c.loop-t.invariant.2 i m s
