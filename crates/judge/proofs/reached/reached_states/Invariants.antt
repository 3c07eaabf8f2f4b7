-- `reached_states` meets its contract. The loop's invariant: what is reached so far lies in every closed set, and is
-- closed but for the states left.
use Rattle.judge.proofs.Looked.{Looked, to_look}
use Rattle.judge.proofs.reached.reached_states.Given as goal

abbrev pub invariant-loop-left : goal.invariant-loop-left
invariant-loop-left l = Looked l.rows l.starts l.reached l.left

abbrev pub decreases-loop-left : goal.decreases-loop-left
decreases-loop-left l = to_look l.reached l.left
