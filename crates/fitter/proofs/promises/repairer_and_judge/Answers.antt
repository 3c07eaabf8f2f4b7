use Rattle.fitter.proofs.RepairerAndJudge.{repairer_and_judge_lem}
use Rattle.fitter.proofs.promises.repairer_and_judge.Goals as goal

pub returns : goal.returns
returns c = repairer_and_judge_lem
