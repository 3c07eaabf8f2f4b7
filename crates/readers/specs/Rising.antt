-- Where the words of the nodes begin: those of each where those of the node before it end, behind that of K.
use Rattle.std.specs.Prelude.{ℕ, suc, ◌≤◌, ◌<◌, List, get_or}
use Rattle.table.specs.declared.limits.TheConstants.{MOST_NODES}

pub record Rising (first : List ℕ) : Type 0 where
  pub starts : 1 ≤ get_or first 0 0
  pub rises : (i : ℕ) → i < MOST_NODES → get_or first i 0 ≤ get_or first (suc i) 0
