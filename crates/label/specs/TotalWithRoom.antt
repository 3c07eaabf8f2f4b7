-- What Label and Holding accept.
use Rattle.std.specs.Prelude.{ℕ, ◌≤◌, List}
use Rattle.table.specs.Table.{table_of}
use Rattle.table.specs.Facts.{IsTable}
use Rattle.ctl.specs.Kept.{IsList, Total}

-- a table and a total list for it, and room for so many entries
pub record TotalWithRoom (table list : List ℕ) (entries room : ℕ) : Type 0 where
  pub accepted : IsTable table
  pub form : IsList (table_of table) list
  pub enough : entries ≤ room
  pub total : Total (table_of table) list
