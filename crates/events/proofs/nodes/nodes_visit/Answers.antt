-- `nodes_visit` meets its contract: the first k of the nodes, one after the other, in their order.
use native.Mathlib.Omega.{arith}
use Rattle.events.specs.NetTable.{table_in}
use Rattle.events.specs.Looked.{CellsOf}
use Rattle.events.proofs.VisitAll.{among_next, among_all, looked_failed}
use Rattle.events.proofs.nodes.nodes_visit.Goals as goal

pub returns-then-report : goal.returns-then-report
returns-then-report c =
    let a = c.args in
    let l = c.loop-k in
    let f = c.node_count-f.result in
    let i = c.in_order-i in
    looked_failed c.if-report.true
    (among_next (CellsOf (table_in a.net.now)) a.down f l.k i.result i.ensures l.invariant c.node_visit.ensures
    c.both-report.ensures)

pub loop-k-preserved : goal.loop-k-preserved
loop-k-preserved c =
    let a = c.args in
    let l = c.loop-k in
    let f = c.node_count-f.result in
    let i = c.in_order-i in
    among_next (CellsOf (table_in a.net.now)) a.down f l.k i.result i.ensures l.invariant c.node_visit.ensures
    c.both-report.ensures

pub returns : goal.returns
returns c =
    let l = c.loop-k in
    among_all (CellsOf (table_in c.args.net.now)) c.args.down c.node_count-f.result l.k _
    (omega (arith, l.auto.k-end, c.loop-k-test.false)) c.node_count-f.ensures l.invariant
