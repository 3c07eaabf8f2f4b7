use Rattle.closure.proofs.Exact.{forced_is_the_smallest}
use Rattle.closure.proofs.laws.forced_is_the_smallest.Goals as goal

pub returns : goal.returns
returns c = forced_is_the_smallest
