-- `check_nodes` meets its contract. The loop's invariant: the whole section fits exactly when the records from i on do.
use Rattle.table.specs.Accept.{nodes_fit}
use Prim.Native.Nat.{◌≤◌}
use mathlib.Core.Path.{◌≡◌}
use lib.ListN.{drop}
use Rattle.table.specs.Table.{records, node_of, node_width}
use Rattle.table.proofs.node_check.check_nodes.Given as goal

abbrev pub invariant-loop-i : goal.invariant-loop-i
invariant-loop-i l =
    (l.i ≤ l.f)
    × (nodes_fit l.p 0 (records node_of node_width l.f l.section)
    ≡ nodes_fit l.p l.i (drop l.i (records node_of node_width l.f l.section)))
