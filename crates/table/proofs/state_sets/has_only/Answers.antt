-- `has_only` meets its contract: the set meets that of p alone just when p is in it.
use Rattle.table.proofs.Only.{meets_only}
use Rattle.table.proofs.state_sets.has_only.Goals as goal

pub returns : goal.returns
returns c p only =
    let a = c.args in
    meets_only a.set p c.ranges.set.fits a.only only c.intersection.result c.intersection.ensures
