-- The law of the kinds, by its two lemmas.
use Rattle.ctl.proofs.Duals.{are_special_cases, duals}
use Rattle.ctl.proofs.laws.kinds_are_related.Goals as goal

pub returns-clause-special_cases : goal.returns-clause-special_cases
returns-clause-special_cases c = are_special_cases

pub returns-clause-duals : goal.returns-clause-duals
returns-clause-duals c = duals
