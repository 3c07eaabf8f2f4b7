-- `write_ascending` meets its contract. The loop's invariant: the states so far are written, and the others are those
-- of what is left of the set.
use Prim.Native.Nat.{◌^◌, ◌≤◌, ◌<◌}
use mathlib.Core.Path.{◌≡◌}
use lib.ListN.{length, drop}
use Rattle.sets.specs.Member.{member}
use Rattle.table.specs.Buffer.{over}
use Rattle.ctl.specs.Range.{below}
use Rattle.label.specs.ReadingOrder.{states_with}
use Rattle.label.proofs.holding.write_ascending.Given as goal

abbrev pub invariant-loop-i : goal.invariant-loop-i
invariant-loop-i l = record {
  goes_on : (goal.iterator-loop-i).can_next l.i-iterator × (goal.iterator-loop-i).is_finite l.i-iterator;
  inside : l.i-iterator.count ≤ length (states_with (below 32) (member l.set));
  written : l.out ≡ over l.i-iterator.count (states_with (below 32) (member l.set)) l.initial.out;
  others : states_with (below 32) (member l.i-iterator.iter.left)
      ≡ drop l.i-iterator.count (states_with (below 32) (member l.set));
  small : l.i-iterator.iter.left < 2 ^ 32;
}
