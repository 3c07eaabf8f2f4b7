-- `reached_states` meets its contract. The loop's invariant: what is reached so far lies in every closed set, and is
-- closed but for the states left.
use Prim.Native.Nat.{◌<◌}
use native.Mathlib.Omega.{arith}
use Rattle.sets.proofs.Walk.{lowest_below}
use Rattle.judge.proofs.Looked.{looked_first, looked_turn, looked_last}
use Rattle.judge.proofs.reached.reached_states.Goals as goal

pub loop-left-init : goal.loop-left-init
loop-left-init c = looked_first _ _ c.ranges.starts.fits

pub offset_bounds-rows-s : goal.offset_bounds-rows-s
offset_bounds-rows-s c =
    let lowest_small : c.lowest-s.result
    < 32 =
    rw c.lowest-s.ensures (lowest_below c.loop-left.left c.loop-left.invariant.left_small c.loop-left-test.true) in
    omega (arith, lowest_small)

pub bounds-rows-s : goal.bounds-rows-s
bounds-rows-s c =
    rw c.lowest-s.ensures (lowest_below c.loop-left.left c.loop-left.invariant.left_small c.loop-left-test.true)

pub loop-left-smaller : goal.loop-left-smaller
loop-left-smaller c =
    let l = c.loop-left in
    let turn =
    looked_turn _ _ l.reached l.left l.invariant c.loop-left-test.true
    c.lowest-s.result c.minus-new.result c.union-reached.result c.remove.result c.union-left.result
    c.lowest-s.ensures c.minus-new.ensures c.union-reached.ensures c.remove.ensures c.union-left.ensures in
    turn.1

pub loop-left-preserved : goal.loop-left-preserved
loop-left-preserved c =
    let l = c.loop-left in
    let turn =
    looked_turn _ _ l.reached l.left l.invariant c.loop-left-test.true
    c.lowest-s.result c.minus-new.result c.union-reached.result c.remove.result c.union-left.result
    c.lowest-s.ensures c.minus-new.ensures c.union-reached.ensures c.remove.ensures c.union-left.ensures in
    turn.0

pub returns : goal.returns
returns c = looked_last _ _ _ c.loop-left.left c.loop-left.invariant c.loop-left-test.false
