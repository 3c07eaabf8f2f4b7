-- What every accepted table has besides what its definition says: its counts are those of its records, and it is short.
use Prim.Native.Nat.{ℕ, ◌≤◌}
use mathlib.Core.Path.{◌≡◌}
use mathlib.Core.List.{List}
use lib.ListN.{length}
use Rattle.table.specs.Table.{table_of, counts_of}
use Rattle.table.specs.Facts.{Wellformed}

-- of accepted bytes: the counts are those of the records, and a table is at most 580 bytes
pub record AcceptedFacts (bytes : List ℕ) : Type 0 where
  pub states_count : length (table_of bytes).states ≡ (counts_of bytes).states
  pub steps_count : length (table_of bytes).steps ≡ (counts_of bytes).steps
  pub nodes_count : length (table_of bytes).nodes ≡ (counts_of bytes).nodes
  pub short : length bytes ≤ 580
  pub table : Wellformed (table_of bytes)
