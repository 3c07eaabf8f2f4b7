-- The law by its lemma.
use Rattle.ctl.proofs.Meaning.{formula_of_lem}
use Rattle.ctl.proofs.laws.formula_of_node.Goals as goal

pub returns : goal.returns
returns c = formula_of_lem
