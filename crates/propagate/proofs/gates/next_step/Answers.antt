-- `next_step` meets its contract: N is added to the node, and what the node then knows beside it is taken back to the
-- steps and to a.
use mathlib.Core.Path.{◌≡◌, ap, ◌∙◌}
use lib.ListN.{get_or}
use Rattle.rows.specs.declared.row.Row.{Row}
use Rattle.rows.specs.Row.{turn}
use Rattle.rows.specs.Rules.{ahead_at, masked, new_of}
use Rattle.rows.specs.Words.{row_at, step_place}
use Rattle.propagate.specs.Memory.{Memory, memory, node_place, add_row, node_row, go_back_more}
use Rattle.propagate.proofs.Chain.{added, after}
use Rattle.propagate.proofs.MarkedLaws.{calm_then, rows_then}
use Rattle.propagate.proofs.gates.next_step.Goals as goal

pub returns-clause-value : goal.returns-clause-value
returns-clause-value c =
    let a = c.args in
    let T = a.graph.now.targets in
    let n = a.graph.now.states in
    let rows = a.rows.now in
    let last = c.add_node-first.new.rows in
    let e = turn a.every in
    let next = ahead_at (λ s. get_or T s 0) (λ s. row_at rows (step_place s)) a.look in
    let end = row_at rows (node_place a.a) in
    let N : Row = e (next (e end)) in
    let below : c.node_row-below.result ≡ end = c.node_row-below.ensures in
    let up : c.turn-up.result ≡ N = c.turn-up.ensures
    ∙ ap e (c.ahead.ensures ∙ ap next (c.turn.ensures ∙ ap e below)) in
    let more : c.new_of-more.result ≡ new_of (masked a.look (row_at last (node_place a.i))) N =
    c.new_of-more.ensures ∙ (λ j. new_of ((c.mask.ensures ∙ ap (masked a.look) c.node_row.ensures) j) (up j)) in
    λ w. after (λ (M : Memory). go_back_more T n a.every (new_of (masked a.look (node_row M a.i)) N) end
    (add_row (node_place a.a)) M)
    (added rows (node_place a.i) up c.add_node-first.ensures.value c.add_node-first.ensures.rows_after w)
    (c.next_back.ensures.value w
    ∙ (λ j. go_back_more T n a.every (more j) (below j) (add_row (node_place a.a)) (memory last w)))
    c.both.ensures

pub returns-clause-marked : goal.returns-clause-marked
returns-clause-marked c = rows_then c.add_node-first.ensures.marked c.next_back.ensures.marked

pub returns-clause-calm : goal.returns-clause-calm
returns-clause-calm c = calm_then c.add_node-first.result c.next_back.result c.both.result c.both.ensures
    c.add_node-first.ensures.calm c.next_back.ensures.calm
