use Rattle.samples.proofs.Holding.{holding_pass}
use Rattle.samples.proofs.holding_pass.Goals as goal

pub returns : goal.returns
returns c = holding_pass
