-- `add_step` marks what it adds.
use Rattle.propagate.proofs.MarkedLaws.{step_added}
use Rattle.propagate.proofs.layout.add_step.Goals as goal

pub returns-clause-marked : goal.returns-clause-marked
returns-clause-marked c =
    let a = c.args in
    let d = c.add_to.ensures in
    step_added c.told-rows d.raised a.x a.s c.requires.s_below d.words_after d.marked
