-- `raise_node` meets its contract. The loop's invariant: the words before k have the set.
use Prim.Native.Nat.{ℕ, ◌≤◌, ◌<◌}
use Rattle.readers.specs.Marked.{Raised}
use Rattle.readers.proofs.MarkLaws.{Has}
use Rattle.readers.proofs.marking.raise_node.Given as goal

abbrev pub invariant-loop-k : goal.invariant-loop-k
invariant-loop-k l = Raised l.initial.looks l.looks × ((j : ℕ) → j < l.k → l.first ≤ j → Has l.looks l.set j)
