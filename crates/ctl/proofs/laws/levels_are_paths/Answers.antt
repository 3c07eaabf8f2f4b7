-- The law by its lemma.
use Rattle.ctl.proofs.Meaning.{levels_are_paths}
use Rattle.ctl.proofs.laws.levels_are_paths.Goals as goal

pub returns : goal.returns
returns c = levels_are_paths
