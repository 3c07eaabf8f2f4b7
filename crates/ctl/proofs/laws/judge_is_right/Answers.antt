-- The law of the judge's tests, by its two lemmas.
use Rattle.ctl.proofs.Refused.{judge_exact, judge_refused}
use Rattle.ctl.proofs.laws.judge_is_right.Goals as goal

pub returns-clause-exact : goal.returns-clause-exact
returns-clause-exact c = judge_exact

pub returns-clause-refused : goal.returns-clause-refused
returns-clause-refused c = judge_refused
