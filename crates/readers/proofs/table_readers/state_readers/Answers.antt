-- `state_readers` meets its contract: the states before s are where they are read.
use Prim.Native.Nat.{ℕ}
use mathlib.Core.Path.{◌≡◌, ap, ◌∙◌}
use mathlib.Core.Bool.{true}
use native.Mathlib.Omega.{arith}
use borrow.Author.Count.{below_more}
use Rattle.sets.specs.Member.{member}
use Rattle.readers.proofs.MarkLaws.{raised_then, one_has}
use Rattle.readers.proofs.table_readers.state_readers.Goals as goal

pub loop-s-preserved : goal.loop-s-preserved
loop-s-preserved c =
    let l = c.loop-s in
    let raise = c.raise.ensures in
    let s = l.s in
    let one : member c.insert-one.result s ≡ true =
    ap (λ (w : ℕ). member w s) c.insert-one.ensures ∙ one_has s (omega (arith, c.loop-s-test.true, c.requires)) in (
      raised_then l.invariant.0 raise.raised,
      below_more _ s (λ k h t m. raise.raised.stays t k (l.invariant.1 k h t m)) (λ t m. raise.added t s m one),
    )
