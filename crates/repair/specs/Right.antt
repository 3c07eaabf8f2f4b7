-- What Repair promises of a table that passes its tests, with buffers that are long enough.
use Rattle.std.specs.Prelude.{ℕ, ◌≤◌, ◌<◌, ◌≡◌, ◌↔◌, List, [], length, take, get_or, Ok, Some}
use Rattle.table.specs.Table.{Table, table_of}
use Rattle.table.specs.Facts.{IsTable}
use Rattle.ctl.specs.Kept.{Struck, Repair, NarrowRepair}
use Rattle.ctl.specs.Price.{list_price}
use Rattle.ctl.specs.Rank.{Cheapest}
use Rattle.ctl.specs.Tests.{judge_verdict}
use Rattle.circuit.specs.Variables.{variable_formula}
use Rattle.closure.specs.Settled.{SettledCount}
use Rattle.search.specs.TableSearch.{search_under, search_free}
use Rattle.search.specs.Right.{choices}
use Rattle.search.specs.declared.answer.Answer.{Answer}
use Rattle.search.specs.Answer.{IsFound, IsNone, IsSpent, IfFound, answer_choices, answer_price, answer_settled}
use Rattle.repair.specs.Effect.{repair_answer, repair_list}

-- The bytes are a table, and the buffers are long enough: the list has a byte for each step, and either work buffer an
-- entry for each variable of the table's circuit.
pub record LongEnough (table list bytes words : List ℕ) : Type 0 where
  pub accepted : IsTable table
  pub list_long : length (table_of table).steps ≤ length list
  pub bytes_long : variable_formula (table_of table) ≤ length bytes
  pub words_long : variable_formula (table_of table) ≤ length words

-- What a list is that was found, at this price. `chosen` is the list before striking; a repair is narrow where besides
-- each kept step leaves a reached state.
pub record FoundList (T : Table) (price : ℕ) (list : List ℕ) : Type 0 where
  pub chosen : List ℕ
  -- it is a repair, no other repair costs less, and every other one that costs the same ranks after it
  pub cheapest : Cheapest (list_price T) (Repair T) chosen
  -- the price is that of the list before striking
  pub priced : price ≡ list_price T chosen
  -- the list is that one with every step struck that leaves a state which it does not reach
  pub struck : Struck T chosen list
  -- struck, it is still a repair, and each of its kept steps leaves a reached state
  pub narrow : NarrowRepair T list

-- What is answered, and what the lent list holds before and after. The search is that of the table under the cap; the
-- one without a cap says how many choices are needed.
pub record RepairIsRight (table : List ℕ) (cap : ℕ) (answer : Answer) (before after : List ℕ) : Type 0 where
  -- spent is answered exactly when the search without a cap makes more choices than the cap
  pub spent : IsSpent answer ↔ (cap < choices (search_free (table_of table)))
  -- otherwise none is answered exactly when no list is a repair
  pub none : choices (search_free (table_of table)) ≤ cap
      → IsNone answer ↔ ((list : List ℕ) → ¬ Repair (table_of table) list)
  -- and so exactly when no list is a repair in the narrower sense
  pub none_narrow : choices (search_free (table_of table)) ≤ cap
      → IsNone answer ↔ ((list : List ℕ) → ¬ NarrowRepair (table_of table) list)
  -- and found is answered exactly when some list is a repair
  pub found : choices (search_free (table_of table)) ≤ cap
      → IsFound answer ↔ ((list : List ℕ) × Repair (table_of table) list)
  -- the bytes of the steps are then the cheapest repair, struck, and the answer has its price
  pub cheapest : IfFound answer (λ price. FoundList (table_of table) price (take (length (table_of table).steps) after))
  -- and the judge accepts them
  pub judged : IfFound answer (λ price. judge_verdict table (take (length (table_of table).steps) after) ≡ Ok tt)
  -- found, none and spent carry how many choices the search makes under the cap
  pub counted : answer_choices answer ≡ Some (choices (search_under (table_of table) cap))
  -- and of how many steps the closure of nothing holds a literal, or 0 where that closure fails
  pub settled : (k : ℕ) × (answer_settled answer ≡ Some k) × SettledCount (table_of table) [] k
  -- none and spent have the price 0
  pub no_price : (¬ IsFound answer) → answer_price answer ≡ Some 0
  -- and leave the list as it was
  pub list_stays : (¬ IsFound answer) → after ≡ before
  -- what the list has behind the bytes of the steps stays in any case
  pub rest_stays : (length after ≡ length before)
      × ((k : ℕ) → length (table_of table).steps ≤ k → get_or after k 0 ≡ get_or before k 0)

-- so it is of every table, cap and buffers that are long enough
abbrev pub EveryRepairIsRight : Type 0
EveryRepairIsRight = (table : List ℕ) (cap : ℕ) (list bytes words : List ℕ) → LongEnough table list bytes words
    → RepairIsRight table cap (repair_answer table cap list bytes words) list (repair_list table cap list bytes words)
