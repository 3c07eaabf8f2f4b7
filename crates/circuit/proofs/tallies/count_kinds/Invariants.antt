-- `count_kinds` meets its contract. The loop's invariant: the nodes before i are counted.
use mathlib.Core.Path.{◌≡◌}
use lib.ListN.{get_or}
use Rattle.sets.specs.Member.{count_of}
use Rattle.table.specs.Table.{table_of, zero_node}
use Rattle.circuit.specs.Tally.{of_kinds}
use Rattle.circuit.proofs.tallies.count_kinds.Given as goal

abbrev pub invariant-loop-i : goal.invariant-loop-i
invariant-loop-i l =
    l.count ≡ count_of l.i (λ i. of_kinds l.first l.last (get_or (table_of l.table.bytes.now).nodes i zero_node))
