-- The search of a table, over its numbered clauses and with the prices of its steps.
use Rattle.std.specs.Prelude.{ℕ, Bool, false, not, cond, List, map, length}
use Rattle.table.specs.Table.{Table}
use Rattle.circuit.specs.Logic.{Literal}
use Rattle.circuit.specs.Variables.{variable_count}
use Rattle.ctl.specs.Range.{below}
use Rattle.ctl.specs.Price.{struck_price}
use Rattle.closure.specs.Computed.{Mark, Marks, unknown, known, mark_at, closure}
use Rattle.closure.specs.Numbered.{numbered_clauses}
use Rattle.search.specs.Search.{Outcome, search, capped, uncapped}

-- the byte of a step: 1 kept, 0 struck
abbrev pub bit_of : Mark → ℕ
bit_of unknown = 0
bit_of (known b) = cond b 1 0

-- the list that marks give, a byte for each of e steps
abbrev pub bytes_of : ℕ → Marks → List ℕ
bytes_of e m = map (λ j. bit_of (mark_at m j)) (below e)

-- whether a step is settled as struck
abbrev pub is_struck : Mark → Bool
is_struck unknown = false
is_struck (known b) = not b

module _ (T : Table) where
  -- what the steps cost that are settled as struck, chosen or forced
  abbrev pub mark_price : Marks → ℕ
  mark_price m = struck_price T (λ j. is_struck (mark_at m j))

  -- the search under a cap, or without one, with the clauses of the table
  unfoldable pub table_search : (ℕ → Bool) → List (List (Literal ℕ)) → Outcome
  table_search at_cap F = search at_cap (closure (variable_count T) F) mark_price (below (length T.steps))

  abbrev pub search_under : ℕ → Outcome
  search_under cap = table_search (capped cap) (numbered_clauses T)

  abbrev pub search_free : Outcome
  search_free = table_search uncapped (numbered_clauses T)

  abbrev pub list_of : Marks → List ℕ
  list_of m = bytes_of (length T.steps) m
