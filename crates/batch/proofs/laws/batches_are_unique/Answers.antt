-- The law by its lemma.
use Rattle.batch.proofs.Right.{unique}
use Rattle.batch.proofs.laws.batches_are_unique.Goals as goal

pub returns : goal.returns
returns c = unique
