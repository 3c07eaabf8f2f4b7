-- `add_joined` marks what it adds: the level, a and b, one after the other.
use Rattle.propagate.proofs.MarkedLaws.{calm_then, rows_then, levels_then, levels_same}
use Rattle.propagate.proofs.level.add_joined.Goals as goal

pub returns-clause-marked : goal.returns-clause-marked
returns-clause-marked c =
    rows_then (rows_then c.add_level.ensures.marked c.add_node.ensures.marked) c.add_node-2.ensures.marked

pub returns-clause-levels : goal.returns-clause-levels
returns-clause-levels c = levels_then
    (levels_then c.add_level.ensures.levels (levels_same c.add_node.ensures.marked.raised))
    (levels_same c.add_node-2.ensures.marked.raised)

pub returns-clause-calm : goal.returns-clause-calm
returns-clause-calm c =
    calm_then c.both-second.result c.add_node-2.result c.both.result c.both.ensures
    (calm_then c.both-first.result c.add_node.result c.both-second.result c.both-second.ensures
    (calm_then _ c.add_level.result c.both-first.result c.both-first.ensures (λ e i. c.args.looks.now)
    c.add_level.ensures.calm) c.add_node.ensures.calm)
    c.add_node-2.ensures.calm
