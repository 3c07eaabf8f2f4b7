-- `reached_states` meets its contract. The loop's invariant: the set is what is reached by m rounds.
use mathlib.Core.Path.{◌≡◌}
use lib.ListN.{length}
use Rattle.events.specs.NetTable.{table_in}
use Rattle.repair.proofs.ReachedBy.{ReachedBy}
use Rattle.repair.proofs.reached.reached_states.Given as goal

abbrev pub invariant-loop-m : goal.invariant-loop-m
invariant-loop-m l = (l.n ≡ length (table_in l.net).states) × ReachedBy (table_in l.net) l.list l._m l.reached
