-- `level_back` marks what it adds: the steps, and then the level below.
use Rattle.propagate.proofs.MarkedLaws.{calm_then, rows_then}
use Rattle.propagate.proofs.level.level_back.Goals as goal

pub returns-clause-marked : goal.returns-clause-marked
returns-clause-marked c = rows_then c.go_back-k.ensures.marked c.add_level.ensures.marked

pub returns-clause-calm : goal.returns-clause-calm
returns-clause-calm c = calm_then c.go_back-k.result.report c.add_level.result c.both.result c.both.ensures
    c.go_back-k.ensures.calm c.add_level.ensures.calm
