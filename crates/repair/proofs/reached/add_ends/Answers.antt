-- `add_ends` meets its contract.
use Prim.Native.Nat.{◌+◌, ◌<◌}
use native.Mathlib.Omega.{arith}
use lib.ListN.{length}
use Rattle.table.specs.Table.{table_of}
use Rattle.table.proofs.Facts.{accepted}
use Rattle.repair.proofs.Rounds.{RoundBefore, round_none, round_with, round-without, round-all}
use Rattle.repair.proofs.reached.add_ends.Goals as goal
use Rattle.repair.proofs.reached.add_ends.Goals.{then-byte-eq1, else-byte-eq1}

pub loop-j-init : goal.loop-j-init
loop-j-init c = round_none _ _ _ c.ranges.set.fits

pub loop-j-preserved : goal.loop-j-preserved
loop-j-preserved c =
    let table = c.args.table.now in
    let T = table_of table.bytes.now in
    let wf = (accepted table.bytes.now table.passes).table in
    let list = c.args.list.now in
    let l = c.loop-j in
    let inside : l.j < length T.steps = omega (arith, c.requires) in
    elim c.if-byte-eq1.branch as (λ _. RoundBefore T list c.args.set (l.j + 1) c.if-byte-eq1.next) [
      | then-byte-eq1 w ↦
          rw w.next-is (round_with T list c.args.set l.j l.next l.invariant inside w.if-byte-eq1.true
          (omega (arith, wf.to_state l.j inside, wf.few_states)) w.insert_if-next.result
          (rw (w.contains.ensures, w.step-x.ensures) at w.insert_if-next.ensures))
      | else-byte-eq1 w ↦ rw w.next-is (round-without T list c.args.set l.j l.next l.invariant w.if-byte-eq1.false)
    ]

pub returns : goal.returns
returns c = round-all (table_of c.args.table.now.bytes.now) c.args.list.now c.args.set c.loop-j.j c.loop-j.next
    c.loop-j.invariant (omega (arith, c.requires))
