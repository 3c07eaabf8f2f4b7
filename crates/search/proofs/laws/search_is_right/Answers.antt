-- `search_is_right` meets its contract.
use Rattle.search.proofs.Right.{search_is_right}
use Rattle.search.proofs.laws.search_is_right.Goals as goal

pub returns : goal.returns
returns c = search_is_right
