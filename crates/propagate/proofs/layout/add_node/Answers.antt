-- `add_node` marks what it adds.
use Rattle.propagate.proofs.MarkedLaws.{node_added}
use Rattle.propagate.proofs.layout.add_node.Goals as goal

pub returns-clause-marked : goal.returns-clause-marked
returns-clause-marked c =
    let a = c.args in
    let d = c.add_to.ensures in
    node_added c.told-rows d.raised a.x a.i c.requires.i_below d.words_after d.marked
