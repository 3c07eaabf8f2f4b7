-- The law of striking, by its two lemmas.
use Rattle.ctl.proofs.Strike.{strike-is_exact, striking_narrows}
use Rattle.ctl.proofs.laws.striking_narrows.Goals as goal

pub returns-clause-strikes : goal.returns-clause-strikes
returns-clause-strikes c = strike-is_exact

pub returns-clause-narrows : goal.returns-clause-narrows
returns-clause-narrows c = striking_narrows
