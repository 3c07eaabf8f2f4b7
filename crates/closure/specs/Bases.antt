-- Where the words of the stored levels lie, as the code keeps it.
use Rattle.std.specs.Prelude.{ℕ, ◌<◌, ◌≡◌, length, get_or}
use Rattle.table.specs.Table.{Table}
use Rattle.table.specs.declared.limits.TheConstants.{MOST_NODES}
use Rattle.closure.specs.declared.bases.Bases.{Bases}
use Rattle.closure.specs.Knowledge.{level_base, level_total}

pub record AreBases (T : Table) (b : Bases) : Type 0 where
  pub size : length b.at ≡ MOST_NODES
  pub at : (i : ℕ) → i < MOST_NODES → get_or b.at i 0 ≡ level_base T i
  pub total : b.total ≡ level_total T
