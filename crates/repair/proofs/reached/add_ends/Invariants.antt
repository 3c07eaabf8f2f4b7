-- `add_ends` meets its contract. The loop's invariant: the round is made of the steps before j.
use Rattle.table.specs.Table.{table_of}
use Rattle.repair.proofs.Rounds.{RoundBefore}
use Rattle.repair.proofs.reached.add_ends.Given as goal

abbrev pub invariant-loop-j : goal.invariant-loop-j
invariant-loop-j l = RoundBefore (table_of l.table.bytes.now) l.list l.set l.j l.next
