-- `strike_unreached` meets its contract. The loop's invariant: the steps before j are struck where that is due, and
-- the others are as they were.
use Rattle.events.specs.NetTable.{table_in}
use Rattle.repair.proofs.Struck.{StruckBefore}
use Rattle.repair.proofs.strike.strike_unreached.Given as goal

abbrev pub invariant-loop-j : goal.invariant-loop-j
invariant-loop-j l = StruckBefore (table_in l.net) l.initial.list l.j l.list
