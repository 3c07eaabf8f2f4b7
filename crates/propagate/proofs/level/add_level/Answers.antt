-- `add_level` marks what it adds: the row of b or of the node, or a stored level.
use Prim.Native.Nat.{◌-◌}
use native.Mathlib.Omega.{arith}
use Rattle.propagate.proofs.MarkedLaws.{rows_same, level_added, levels_same}
use Rattle.propagate.proofs.level.add_level.Goals as goal

pub returns-then-m-eq0-clause-levels : goal.returns-then-m-eq0-clause-levels
returns-then-m-eq0-clause-levels c = levels_same c.add_node.ensures.marked.raised

pub returns-then-m-graph-clause-levels : goal.returns-then-m-graph-clause-levels
returns-then-m-graph-clause-levels c = levels_same c.add_node-then-m-graph.ensures.marked.raised

pub returns-clause-marked : goal.returns-clause-marked
returns-clause-marked c = rows_same c.add_to.ensures.raised

pub returns-clause-levels : goal.returns-clause-levels
returns-clause-levels c =
    let a = c.args in
    level_added {r = a.graph.now.readers} {n = a.graph.now.states} {x = a.x} c.requires.fits.levels_below
    c.add_to.ensures.raised (a.m - 1) (omega (arith, c.if-m-eq0.false, c.if-m-graph.false, c.requires.m_le_n)) a.r
    c.add_to.ensures.words_after c.add_to.ensures.marked
