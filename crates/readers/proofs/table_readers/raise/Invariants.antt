-- `raise` meets its contract: the word of each state named grows by the set, one after the other.
use Rattle.sets.proofs.Walk.{Left}
use Rattle.readers.specs.Marked.{Raised}
use Rattle.readers.proofs.MarkLaws.{Has, Gone}
use Rattle.readers.proofs.table_readers.raise.Given as goal

abbrev pub invariant-loop-t : goal.invariant-loop-t
invariant-loop-t l = Left l.states l.t-iterator.left × Raised l.initial.readers l.readers
    × Gone l.states l.t-iterator.left (Has l.readers l.set)
