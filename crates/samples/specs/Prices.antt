-- What prices decide: of the sheet, neither its list nor its counts; of a fork, which way is struck.
use Rattle.std.specs.Prelude.{ℕ, ◌≤◌, ◌<◌, ◌≡◌, List, [], ◌∷◌, ◌++◌, take}
use Rattle.table.specs.Facts.{IsTable}
use Rattle.table.specs.Table.{table_of}
use Rattle.ctl.specs.Reached.{strike}
use Rattle.closure.specs.Computed.{Marks}
use Rattle.search.specs.Search.{found, spent}
use Rattle.search.specs.TableSearch.{search_under, list_of}
use Rattle.search.specs.declared.answer.Answer.TheVariants.{Found, Spent}
use Rattle.repair.specs.Effect.{repair_answer, repair_list}
use Rattle.repair.specs.Right.{LongEnough}
use Rattle.samples.specs.Samples.{finds, spends, Case, repaired, priced}

-- The sheet at any prices, with long enough buffers. One step is settled before the first choice: the only one out of
-- the initial state.
pub record SheetAt (p q r s : ℕ) : Type 0 where
  pub accepted : IsTable (priced p q r s)
  -- The price reported is that of the step from 1 to 2; the step from 2 to 2, which is struck besides, is not paid.
  pub found_from_6 : (cap : ℕ) → 6 ≤ cap → (list bytes words : List ℕ) → LongEnough (priced p q r s) list bytes words
      → (repair_answer (priced p q r s) cap list bytes words ≡ Found r 6 1)
      × (take 4 (repair_list (priced p q r s) cap list bytes words) ≡ 1 ∷ 1 ∷ 0 ∷ 0 ∷ [])
  pub spent_below_6 : (cap : ℕ) → cap < 6 → (list bytes words : List ℕ) → LongEnough (priced p q r s) list bytes words
      → repair_answer (priced p q r s) cap list bytes words ≡ Spent cap 1
  -- The same of the search itself. Its list still keeps the step from 2 to 2, also where that costs nothing.
  pub chosen_from_6 : (cap : ℕ) → 6 ≤ cap
      → (m : Marks)
      × (search_under (table_of (priced p q r s)) cap ≡ found m r 6 1)
      × (list_of (table_of (priced p q r s)) m ≡ 1 ∷ 1 ∷ 0 ∷ 1 ∷ [])
      × (strike (table_of (priced p q r s)) (list_of (table_of (priced p q r s)) m) ≡ 1 ∷ 1 ∷ 0 ∷ 0 ∷ [])
  pub cut_below_6 : (cap : ℕ) → cap < 6 → search_under (table_of (priced p q r s)) cap ≡ spent cap 1

abbrev pub SheetAtAnyPrices : Type 0
SheetAtAnyPrices = (p q r s : ℕ) → SheetAt p q r s

-- State 0 is initial; p0 at state 1 and p1 at state 2. Steps 0 1 and 0 2 have these prices, and the loops at 1 and 2
-- cost 9 each. Rule: AX p0 or AX p1.
abbrev pub forked : ℕ → ℕ → List ℕ
forked p q =
    (3 ∷ 4 ∷ 5 ∷ 2 ∷ [])
    ++ (1 ∷ 0 ∷ 0 ∷ 0 ∷ 1 ∷ 0 ∷ 0 ∷ 2 ∷ 0 ∷ [])
    ++ (0 ∷ 1 ∷ p ∷ 0 ∷ 2 ∷ q ∷ 1 ∷ 1 ∷ 9 ∷ 2 ∷ 2 ∷ 9 ∷ [])
    ++ (2 ∷ 0 ∷ 0 ∷ 2 ∷ 1 ∷ 0 ∷ 6 ∷ 0 ∷ 0 ∷ 6 ∷ 1 ∷ 0 ∷ 5 ∷ 2 ∷ 3 ∷ [])

-- Step 0 1 kept ranks first, and forces step 0 2 struck. In turn: the other way is cheaper, by 3 and by 1; the cap is
-- reached after the first find; the prices are equal, and the first find stays; the first is cheaper.
abbrev pub price_cases : List Case
price_cases =
    repaired (forked 2 5) 1000000 (finds (0 ∷ 1 ∷ 1 ∷ 1 ∷ []) (0 ∷ 1 ∷ 0 ∷ 1 ∷ []) 2 6 0)
    ∷ repaired (forked 5 6) 1000000 (finds (0 ∷ 1 ∷ 1 ∷ 1 ∷ []) (0 ∷ 1 ∷ 0 ∷ 1 ∷ []) 5 6 0)
    ∷ repaired (forked 2 5) 5 (spends 5 0)
    ∷ repaired (forked 5 5) 1000000 (finds (1 ∷ 0 ∷ 1 ∷ 1 ∷ []) (1 ∷ 0 ∷ 1 ∷ 0 ∷ []) 5 4 0)
    ∷ repaired (forked 0 0) 1000000 (finds (1 ∷ 0 ∷ 1 ∷ 1 ∷ []) (1 ∷ 0 ∷ 1 ∷ 0 ∷ []) 0 4 0)
    ∷ repaired (forked 5 2) 1000000 (finds (1 ∷ 0 ∷ 1 ∷ 1 ∷ []) (1 ∷ 0 ∷ 1 ∷ 0 ∷ []) 2 4 0)
    ∷ []
