-- Sample tables, each with what a call answers: of Repair under a cap, or of the judge.
use Rattle.std.specs.Prelude.{ℕ, Bool, false, ◌&&◌, List, [], ◌∷◌, ◌++◌, eqb, length, replicate}
use Rattle.table.specs.Verdict.{verdict_number}
use Rattle.table.specs.Table.{Table, table_of}
use Rattle.table.specs.Accept.{table_verdict}
use Rattle.ctl.specs.Price.{list_price}
use Rattle.ctl.specs.Reached.{strike}
use Rattle.ctl.specs.Tests.{judge_verdict}
use Rattle.circuit.specs.Variables.{variable_formula}
use Rattle.closure.specs.Numbered.{same_code}
use Rattle.search.specs.Search.{Outcome, found, none, spent}
use Rattle.search.specs.TableSearch.{search_under, list_of}
use Rattle.search.specs.declared.answer.Answer.{Answer}
use Rattle.search.specs.declared.answer.Answer.TheVariants.{Found, None, Spent, Refused}
use Rattle.repair.specs.Effect.{repair_answer, repair_list}

-- What Repair is expected to answer, with its choices and the steps settled before the first. A find is given by the
-- list that the search itself finds, by what is written, which is that list struck, and by the price, which is the
-- one before striking.
pub data Expected : Type 0 where
  finds : List ℕ → List ℕ → ℕ → ℕ → ℕ → Expected
  finds_none spends : ℕ → ℕ → Expected

-- a table repaired under a cap, or a list judged: by the number of its refusal, 0 where it is accepted
pub data Case : Type 0 where
  repaired : List ℕ → ℕ → Expected → Case
  judged : List ℕ → List ℕ → ℕ → Case

-- what the search itself ends with: a find has the list before it is struck
unfoldable pub searches : Table → Expected → Outcome → Bool
searches T (finds chosen written p c k) (found m q d l) =
    same_code (list_of T m) chosen && eqb q p && eqb d c && eqb l k
searches T (finds chosen written p c k) (none d l) = false
searches T (finds chosen written p c k) (spent d l) = false
searches T (finds_none c k) (found m q d l) = false
searches T (finds_none c k) (none d l) = eqb d c && eqb l k
searches T (finds_none c k) (spent d l) = false
searches T (spends c k) (found m q d l) = false
searches T (spends c k) (none d l) = false
searches T (spends c k) (spent d l) = eqb d c && eqb l k

-- the answer, and the list that was lent as it is after the call and as it was before
unfoldable pub answers : Table → Expected → Answer → List ℕ → List ℕ → Bool
answers T (finds chosen written p c k) (Found q d l) after before =
    same_code after written
    && same_code (strike T chosen) written
    && eqb (list_price T chosen) p
    && eqb q p
    && eqb d c
    && eqb l k
answers T (finds chosen written p c k) (None d l) after before = false
answers T (finds chosen written p c k) (Spent d l) after before = false
answers T (finds chosen written p c k) (Refused r) after before = false
answers T (finds_none c k) (Found q d l) after before = false
answers T (finds_none c k) (None d l) after before = same_code after before && eqb d c && eqb l k
answers T (finds_none c k) (Spent d l) after before = false
answers T (finds_none c k) (Refused r) after before = false
answers T (spends c k) (Found q d l) after before = false
answers T (spends c k) (None d l) after before = false
answers T (spends c k) (Spent d l) after before = same_code after before && eqb d c && eqb l k
answers T (spends c k) (Refused r) after before = false

-- What is lent: just long enough, with 9 in each entry.
abbrev pub lent_list : Table → List ℕ
lent_list T = replicate (length T.steps) 9

abbrev pub lent_work : Table → List ℕ
lent_work T = replicate (variable_formula T) 9

-- the table is accepted, the search ends as is expected, and the call answers that
unfoldable pub passes : Case → Bool
passes (repaired table cap expected) =
    let T = table_of table in
    eqb (verdict_number (table_verdict table)) 0
    && searches T expected (search_under T cap)
    && answers T expected
    (repair_answer table cap (lent_list T) (lent_work T) (lent_work T))
    (repair_list table cap (lent_list T) (lent_work T) (lent_work T))
    (lent_list T)
passes (judged table list number) =
    eqb (verdict_number (table_verdict table)) 0 && eqb (verdict_number (judge_verdict table list)) number

-- the sheet: three states, four steps with these prices; always, no endless stretch of proposition 0
abbrev pub priced : ℕ → ℕ → ℕ → ℕ → List ℕ
priced p q r s =
    (3 ∷ 4 ∷ 5 ∷ 1 ∷ [])
    ++ (1 ∷ 0 ∷ 0 ∷ 0 ∷ 1 ∷ 0 ∷ 0 ∷ 1 ∷ 0 ∷ [])
    ++ (0 ∷ 1 ∷ p ∷ 1 ∷ 0 ∷ q ∷ 1 ∷ 2 ∷ r ∷ 2 ∷ 2 ∷ s ∷ [])
    ++ (0 ∷ 0 ∷ 0 ∷ 2 ∷ 0 ∷ 0 ∷ 9 ∷ 0 ∷ 1 ∷ 3 ∷ 2 ∷ 0 ∷ 8 ∷ 0 ∷ 3 ∷ [])

-- as it is stored; what it answers at other prices is in Prices.antt
abbrev pub sheet : List ℕ
sheet = priced 1 2 3 4

-- one state with this label, step 0 0 of price 5, rule A[p0 V p1]
abbrev pub loop : ℕ → List ℕ
loop label =
    (1 ∷ 1 ∷ 3 ∷ 2 ∷ []) ++ (1 ∷ label ∷ 0 ∷ []) ++ (0 ∷ 0 ∷ 5 ∷ []) ++ (2 ∷ 0 ∷ 0 ∷ 2 ∷ 1 ∷ 0 ∷ 8 ∷ 0 ∷ 1 ∷ [])

-- states 0 and 1 both initial, labels 1 and 0, steps 0 0 of price 0 and 1 1 of price 255, rule p0
abbrev pub two_loops : List ℕ
two_loops = (2 ∷ 2 ∷ 1 ∷ 1 ∷ []) ++ (1 ∷ 1 ∷ 0 ∷ 1 ∷ 0 ∷ 0 ∷ []) ++ (0 ∷ 0 ∷ 0 ∷ 1 ∷ 1 ∷ 255 ∷ []) ++ (2 ∷ 0 ∷ 0 ∷ [])

-- two states, 0 initial, only step 0 1 of price 0, rule true
abbrev pub dead_end : List ℕ
dead_end = (2 ∷ 1 ∷ 1 ∷ 0 ∷ []) ++ (1 ∷ 0 ∷ 0 ∷ 0 ∷ 0 ∷ 0 ∷ []) ++ (0 ∷ 1 ∷ 0 ∷ []) ++ (1 ∷ 0 ∷ 0 ∷ [])

-- In the second sample the step that is struck besides costs nothing, so the list that is written has the price of the
-- one that is found.
abbrev pub cases : List Case
cases =
    repaired sheet 1000000 (finds (1 ∷ 1 ∷ 0 ∷ 1 ∷ []) (1 ∷ 1 ∷ 0 ∷ 0 ∷ []) 3 6 1)
    ∷ repaired (priced 1 2 3 0) 1000000 (finds (1 ∷ 1 ∷ 0 ∷ 1 ∷ []) (1 ∷ 1 ∷ 0 ∷ 0 ∷ []) 3 6 1)
    ∷ repaired sheet 6 (finds (1 ∷ 1 ∷ 0 ∷ 1 ∷ []) (1 ∷ 1 ∷ 0 ∷ 0 ∷ []) 3 6 1)
    ∷ repaired sheet 5 (spends 5 1)
    ∷ repaired sheet 3 (spends 3 1)
    ∷ judged sheet (1 ∷ 1 ∷ 0 ∷ 1 ∷ []) 16
    ∷ judged sheet (1 ∷ 1 ∷ 0 ∷ 0 ∷ []) 0
    ∷ judged sheet (1 ∷ 1 ∷ 1 ∷ 1 ∷ []) 13
    ∷ judged sheet (1 ∷ 1 ∷ 1 ∷ 0 ∷ []) 11
    ∷ judged sheet (0 ∷ 0 ∷ 0 ∷ 1 ∷ []) 12
    ∷ repaired (loop 1) 1000000 (finds_none 0 0)
    ∷ repaired (loop 2) 1000000 (finds (1 ∷ []) (1 ∷ []) 0 0 1)
    ∷ repaired (loop 3) 1000000 (finds (1 ∷ []) (1 ∷ []) 0 0 1)
    ∷ repaired two_loops 1000000 (finds (1 ∷ 0 ∷ []) (1 ∷ 0 ∷ []) 255 0 2)
    ∷ repaired dead_end 1000000 (finds_none 0 0)
    ∷ []
