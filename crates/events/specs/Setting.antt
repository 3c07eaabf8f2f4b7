-- What propagation is told of a table beside its bytes, worked out once before a search.
use Rattle.std.specs.Prelude.{ℕ, ◌<◌, ◌≡◌, List, Ok, length, get_or}
use Rattle.table.specs.Table.{table_of}
use Rattle.table.specs.Accept.{table_verdict}
use Rattle.table.specs.Rows.{target_set}
use Rattle.table.specs.declared.limits.TheConstants.{MOST_STATES, MOST_NODES}
use Rattle.propagate.specs.declared.graph.Graph.{Graph}
use Rattle.readers.specs.Readers.{AreReaders}
use Rattle.closure.specs.Rest.{initial_set}
use Rattle.closure.specs.Knowledge.{level_base, level_total}

-- an accepted table, how many states it has and the ends of the steps out of each, the initial states, where the
-- levels of each node lie and how many words they are, and who reads what
pub record Setting (table : List ℕ) (graph : Graph) (initial : ℕ) (bases : List ℕ) (levels : ℕ) : Type 0 where
  pub accepted : table_verdict table ≡ Ok tt
  pub states : graph.states ≡ length (table_of table).states
  pub targets_size : length graph.targets ≡ MOST_STATES
  pub targets_at : (s : ℕ) → s < MOST_STATES → get_or graph.targets s 0 ≡ target_set (table_of table).steps s
  pub initial_states : initial ≡ initial_set (table_of table)
  pub bases_size : length bases ≡ MOST_NODES
  pub bases_at : (i : ℕ) → i < MOST_NODES → get_or bases i 0 ≡ level_base (table_of table) i
  pub all_levels : levels ≡ level_total (table_of table)
  pub reads : AreReaders (table_of table) graph.readers
