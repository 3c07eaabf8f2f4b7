-- `one_input_step` marks what it adds: each row as it is added, one after the other.
use Rattle.propagate.proofs.MarkedLaws.{calm_then, rows_then}
use Rattle.propagate.proofs.gates.one_input_step.Goals as goal

pub returns-clause-marked : goal.returns-clause-marked
returns-clause-marked c = rows_then c.add_node-first.ensures.marked c.add_node.ensures.marked

pub returns-clause-calm : goal.returns-clause-calm
returns-clause-calm c = calm_then c.add_node-first.result c.add_node.result c.both.result c.both.ensures
    c.add_node-first.ensures.calm c.add_node.ensures.calm
