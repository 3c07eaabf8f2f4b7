-- A read inside the loop: what it gave stands behind what came before.
use Rattle.std.proofs.Common.{rules, take}
use lib.Seq.{length-take-le}
use Rattle.input.proofs.Arrived.{read_more}
use Rattle.input.proofs.read_input.Goals as goal

pub loop-n-preserved : goal.loop-n-preserved
loop-n-preserved g c =
    let at = c.loop-n.n in
    let before = c.loop-n.invariant in
    let read = c.in_ok-more.ensures in (
      search rules,
      read_more
          _ _ _
          (take at c.loop-n.room) c.read.new.buf _
          at c.in_ok-more.more
          (length-take-le at c.loop-n.room before.0) read.bound.0 before.1 read.bytes.0,
    )
