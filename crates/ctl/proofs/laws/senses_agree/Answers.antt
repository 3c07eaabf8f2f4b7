-- The law by its lemma.
use Rattle.ctl.proofs.Strike.{senses_agree}
use Rattle.ctl.proofs.laws.senses_agree.Goals as goal

pub returns : goal.returns
returns c = senses_agree
