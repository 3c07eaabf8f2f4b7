-- `add_kept` marks what it adds.
use Rattle.propagate.proofs.MarkedLaws.{kept_added}
use Rattle.propagate.proofs.layout.add_kept.Goals as goal

pub returns-clause-marked : goal.returns-clause-marked
returns-clause-marked c =
    let a = c.args in
    let d = c.add_to.ensures in
    kept_added c.told-rows d.raised a.x d.words_after d.marked
