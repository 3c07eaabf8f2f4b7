-- `repair_is_right` meets its contract: the law is proved of the definitions.
use Rattle.repair.proofs.Right.{every_repair_is_right}
use Rattle.repair.proofs.laws.repair_is_right.Goals as goal

pub returns : goal.returns
returns c = every_repair_is_right
