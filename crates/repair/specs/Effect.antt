-- What Repair answers, and what each of its three buffers holds afterwards, for all inputs.
use Rattle.std.specs.Prelude.{ℕ, Bool, ◌&&◌, List, ◌++◌, leb, length, drop, replicate, Ok, Err}
use Rattle.table.specs.declared.refusal.Refusal.TheVariants.{ShortBuffer}
use Rattle.table.specs.Verdict.{Verdict, require, ◌then◌}
use Rattle.table.specs.Buffer.{on_accepted, over}
use Rattle.table.specs.Table.{Table, table_of}
use Rattle.table.specs.Accept.{table_verdict}
use Rattle.ctl.specs.Reached.{strike}
use Rattle.circuit.specs.Variables.{variable_formula}
use Rattle.search.specs.Search.{Outcome, found, none, spent}
use Rattle.search.specs.TableSearch.{search_under, list_of}
use Rattle.search.specs.declared.answer.Answer.{Answer}
use Rattle.search.specs.declared.answer.Answer.TheVariants.{Refused}
use Rattle.search.specs.Answer.{answer_of}

-- the list has a byte for each step, and either work buffer an entry for each variable
abbrev pub buffers_fit : Table → ℕ → ℕ → ℕ → Bool
buffers_fit T list bytes words =
    leb (length T.steps) list && leb (variable_formula T) bytes && leb (variable_formula T) words

-- the tests of the table, then that of the buffers
unfoldable pub repair_verdict : List ℕ → List ℕ → List ℕ → List ℕ → Verdict
repair_verdict table list bytes words =
    table_verdict table
    then require ShortBuffer (buffers_fit (table_of table) (length list) (length bytes) (length words))

-- The lent list afterwards: found writes a byte for each step, and the rest stays. What is written is what the search
-- finds, struck.
abbrev pub written_after : Table → Outcome → List ℕ → List ℕ
written_after T (found m p c k) list = strike T (list_of T m) ++ drop (length T.steps) list
written_after T (none c k) list = list
written_after T (spent c k) list = list

-- refused where a test refuses, else that
abbrev pub answer_at : Verdict → Outcome → Answer
answer_at (Ok tt) outcome = answer_of outcome
answer_at (Err r) outcome = Refused r

-- a work buffer: the first k entries 0, and the rest as it was
abbrev pub cleared : ℕ → List ℕ → List ℕ
cleared k buffer = over k (replicate k 0) buffer

-- the outcome of the call, for every table, cap and three buffers
module _ (table : List ℕ) (cap : ℕ) (list bytes words : List ℕ) where
  abbrev pub repair_answer : Answer
  repair_answer = answer_at (repair_verdict table list bytes words) (search_under (table_of table) cap)

  -- found writes the bytes of the steps; none, spent and a refusal leave the list
  abbrev pub repair_list : List ℕ
  repair_list = on_accepted (repair_verdict table list bytes words)
      (written_after (table_of table) (search_under (table_of table) cap) list) list

  -- found, none and spent leave the first V entries of both work buffers 0; a refusal leaves them
  abbrev pub repair_bytes : List ℕ
  repair_bytes =
      on_accepted (repair_verdict table list bytes words) (cleared (variable_formula (table_of table)) bytes) bytes

  abbrev pub repair_words : List ℕ
  repair_words =
      on_accepted (repair_verdict table list bytes words) (cleared (variable_formula (table_of table)) words) words
