use Rattle.closure.proofs.Exact.{computed_is_the_forced}
use Rattle.closure.proofs.laws.computed_is_the_forced.Goals as goal

pub returns : goal.returns
returns c = computed_is_the_forced
