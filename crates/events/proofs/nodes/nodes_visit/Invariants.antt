-- `nodes_visit` meets its contract: the first k of the nodes, one after the other, in their order.
use Rattle.propagate.specs.Memory.{memory}
use Rattle.events.specs.NetTable.{table_in}
use Rattle.events.specs.Looked.{Always, CellsOf, Looked}
use Rattle.events.proofs.VisitAll.{Among}
use Rattle.events.proofs.nodes.nodes_visit.Given as goal

abbrev pub invariant-loop-k : goal.invariant-loop-k
invariant-loop-k l = Looked (table_in l.net) (Among (CellsOf (table_in l.net)) l.down l.f l.k) Always l.initial.looks
    l.looks (memory l.initial.rows l.initial.words) (memory l.rows l.words) l.report
