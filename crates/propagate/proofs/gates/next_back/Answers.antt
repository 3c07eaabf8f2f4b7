-- `next_back` marks what it adds: the steps, and then the row of a.
use Rattle.propagate.proofs.MarkedLaws.{calm_then, rows_then}
use Rattle.propagate.proofs.gates.next_back.Goals as goal

pub returns-clause-marked : goal.returns-clause-marked
returns-clause-marked c = rows_then c.go_back-k.ensures.marked c.add_node.ensures.marked

pub returns-clause-calm : goal.returns-clause-calm
returns-clause-calm c = calm_then c.go_back-k.result.report c.add_node.result c.both.result c.both.ensures
    c.go_back-k.ensures.calm c.add_node.ensures.calm
