-- The repairer is right, and the judge accepts the narrow repairs.
use Rattle.ctl.proofs.Refused.{judge_exact}
use Rattle.repair.proofs.Right.{every_repair_is_right}
use Rattle.fitter.specs.RepairerAndJudge.{RepairerAndJudge}

pub repairer_and_judge_lem : RepairerAndJudge
repairer_and_judge_lem table cap list bytes words judged long = record {
  repairer = every_repair_is_right table cap list bytes words long;
  judge = (λ e. ((judge_exact table judged).0 e).1, λ narrow. (judge_exact table judged).1 (long.accepted, narrow));
}
