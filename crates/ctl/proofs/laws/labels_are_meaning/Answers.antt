-- The law by its lemma.
use Rattle.ctl.proofs.Meaning.{labels_are_meaning}
use Rattle.ctl.proofs.laws.labels_are_meaning.Goals as goal

pub returns : goal.returns
returns c = labels_are_meaning
