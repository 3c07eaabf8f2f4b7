-- Several tables end to end, each repaired in its turn under what the earlier ones have left of one allowance of
-- choices. Specification, "Batches".
use Rattle.std.specs.Prelude.{ℕ, zero, suc, ◌+◌, ◌-◌, ◌≤◌, ◌<◌, ◌≡◌, max, List, [], ◌∷◌, length, get_or, take, drop}
use Rattle.table.specs.Table.{table_of}
use Rattle.table.specs.Facts.{IsTable}
use Rattle.circuit.specs.Variables.{concat, variable_formula}
use Rattle.search.specs.TableSearch.{search_under}
use Rattle.search.specs.Right.{choices}

-- how many tables a batch may have
abbrev pub most_tables : ℕ
most_tables = 8

-- the bytes of a table by its number
abbrev pub table_at : List (List ℕ) → ℕ → List ℕ
table_at tables k = get_or tables k []

-- the bytes are these tables end to end: one to eight, each accepted
pub record IsBatch (bytes : List ℕ) (tables : List (List ℕ)) : Type 0 where
  pub joined : bytes ≡ concat tables
  pub some : 1 ≤ length tables
  pub few : length tables ≤ most_tables
  pub each : (k : ℕ) → k < length tables → IsTable (table_at tables k)

-- ---- the lent lists lie end to end

abbrev pub steps_in : List ℕ → ℕ
steps_in table = length (table_of table).steps

-- how many steps the first k tables have: where the part of table k begins
unfoldable pub steps_before : List (List ℕ) → ℕ → ℕ
steps_before tables zero = 0
steps_before [] (suc k) = 0
steps_before (t ∷ ts) (suc k) = steps_in t + steps_before ts k

-- the part of table k
abbrev pub part : List (List ℕ) → ℕ → List ℕ → List ℕ
part tables k lists = take (steps_in (table_at tables k)) (drop (steps_before tables k) lists)

-- ---- the allowance

-- the choices that the search of a table makes under a cap
abbrev pub used : List ℕ → ℕ → ℕ
used table cap = choices (search_under (table_of table) cap)

-- what is left of the cap for table k: the cap, less the choices of each table before it, under what was left for that
-- one
unfoldable pub allowance : List (List ℕ) → ℕ → ℕ → ℕ
allowance tables cap zero = cap
allowance [] cap (suc k) = cap
allowance (t ∷ ts) cap (suc k) = allowance ts (cap - used t cap) k

-- ---- the work buffers

-- the largest V of any table
unfoldable pub most_variables : List (List ℕ) → ℕ
most_variables [] = 0
most_variables (t ∷ ts) = max (variable_formula (table_of t)) (most_variables ts)
