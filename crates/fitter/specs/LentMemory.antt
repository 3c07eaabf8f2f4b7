-- After every call, on every input, each lent buffer holds exactly what is said here of the answer. An input that is
-- refused is refused for what fails in it, and then nothing is written. Nothing is asked of any input.
--
-- Specification, "Calls". The answers and the buffers are those of the contracts of `repair`, `judge_list`,
-- `label_nodes`, `holding_states` and `read`. A function that is proved ends. What the numbers hold that C lends, the
-- contracts of the crate fitter_c say.
use Rattle.std.specs.Prelude.{ℕ, ◌≡◌, ◌↔◌, List, Result, IsOk, IfOk, IfErr, OnOk, OnErr, length, replicate}
use Rattle.table.specs.declared.refusal.Refusal.{Refusal}
use Rattle.table.specs.Verdict.{Verdict}
use Rattle.table.specs.Buffer.{Written}
use Rattle.table.specs.Table.{table_of}
use Rattle.table.specs.Facts.{IsTable}
use Rattle.ctl.specs.Kept.{NarrowRepair}
use Rattle.ctl.specs.Refused.{JudgeRefused, ListRefused}
use Rattle.ctl.specs.Tests.{judge_verdict}
use Rattle.circuit.specs.Variables.{variable_formula}
use Rattle.label.specs.Calls.{label_verdict, label_buffer, holding_answer, holding_buffer}
use Rattle.label.specs.Exact.{LabelIsExact, HoldingIsExact}
use Rattle.reader.specs.Exact.{Readable, ReadRefused, ReadIsExact}
use Rattle.reader.specs.Read.{read_answer, read_buffer}
use Rattle.search.specs.declared.answer.Answer.{Answer}
use Rattle.search.specs.Answer.{IsFound, IfFound, IfRefused}
use Rattle.batch.specs.declared.BatchEnd.{BatchEnd}
use Rattle.batch.specs.Effect.{batch_end, batch_lists, batch_bytes, batch_words, batch_answers}
use Rattle.batch.specs.Right.{BatchTaken, BatchRefused, BatchIsRight}
use Rattle.repair.specs.Effect.{repair_answer, repair_list, repair_bytes, repair_words}
use Rattle.repair.specs.Refused.{RepairRefused}
use Rattle.repair.specs.Right.{LongEnough, FoundList}
use Rattle.fitter.specs.Numbers.{NumbersTell}
use Rattle.label.specs.TotalWithRoom.{TotalWithRoom}

-- Repair, with its list and its two work buffers before and after
module _ (table : List ℕ) (cap : ℕ) (answer : Answer) (list bytes words list' bytes' words' : List ℕ) where
  pub record RepairLeaves : Type 0 where
    pub refused : IfRefused answer (RepairRefused table list bytes words)
    -- a refusal leaves all three
    pub untouched : IfRefused answer (λ r. (list' ≡ list) × ((bytes' ≡ bytes) × (words' ≡ words)))
    -- nothing is refused exactly where the bytes are a table and the buffers are long enough
    pub answered : IfRefused answer (λ r. ⊥) ↔ LongEnough table list bytes words
    -- found: the cheapest repair, struck, stands at the front of the list, and the rest stays
    pub found : IfFound answer (λ price.
        (written : List ℕ) × FoundList (table_of table) price written × Written written list list')
    -- else the list stays
    pub list_stays : (¬ IsFound answer) → list' ≡ list
    -- found, none and spent leave an entry for each variable of the circuit 0 in both work buffers, and the rest as it
    -- was
    pub cleared : LongEnough table list bytes words
        → Written (replicate (variable_formula (table_of table)) 0) bytes bytes'
        × Written (replicate (variable_formula (table_of table)) 0) words words'

-- the judge, which is lent no buffer
pub record JudgeAnswers (table list : List ℕ) (verdict : Verdict) : Type 0 where
  pub refused : IfErr verdict (JudgeRefused table list)
  pub accepted : IsOk verdict ↔ (IsTable table × NarrowRepair (table_of table) list)

-- Label, with its buffer before and after
pub record LabelLeaves (table list : List ℕ) (verdict : Verdict) (before after : List ℕ) : Type 0 where
  pub refused : IfErr verdict (ListRefused (length (table_of table).nodes) (length before) table list)
  pub untouched : OnErr verdict (after ≡ before)
  pub answered : IsOk verdict ↔ TotalWithRoom table list (length (table_of table).nodes) (length before)
  pub written : OnOk verdict (LabelIsExact (table_of table) list before after)

-- Holding
pub record HoldingLeaves (table list : List ℕ) (answer : Result ℕ Refusal) (before after : List ℕ) : Type 0 where
  pub refused : IfErr answer (ListRefused (length (table_of table).states) (length before) table list)
  pub untouched : OnErr answer (after ≡ before)
  pub answered : IsOk answer ↔ TotalWithRoom table list (length (table_of table).states) (length before)
  pub written : IfOk answer (λ k. HoldingIsExact (table_of table) list k before after)

-- Read
pub record ReadLeaves (text : List ℕ) (answer : Result ℕ Refusal) (before after : List ℕ) : Type 0 where
  pub refused : IfErr answer (ReadRefused text (length before))
  pub untouched : OnErr answer (after ≡ before)
  pub answered : IsOk answer ↔ Readable text (length before)
  pub written : IfOk answer (λ k. ReadIsExact text k before after)

-- Several tables end to end, with their lists, two work buffers and answers
module _ (bytes : List ℕ) (cap : ℕ) (result : Result BatchEnd Refusal)
    (lists work words : List ℕ) (answers : List Answer)
    (lists' work' words' : List ℕ) (answers' : List Answer) where
  pub record BatchLeaves : Type 0 where
    pub refused : IfErr result (BatchRefused bytes (length lists) (length work) (length words) (length answers))
    pub untouched : OnErr result ((lists' ≡ lists) × ((work' ≡ work) × ((words' ≡ words) × (answers' ≡ answers))))
    pub answered : IsOk result ↔ BatchTaken bytes (length lists) (length work) (length words) (length answers)
    pub written : IfOk result (λ end. BatchIsRight bytes cap end.tables end.left answers answers' lists lists'
        work work' words words')

pub record LentMemory : Type 0 where
  pub repair : (table : List ℕ) (cap : ℕ) (list bytes words : List ℕ)
      → RepairLeaves table cap (repair_answer table cap list bytes words) list bytes words
      (repair_list table cap list bytes words) (repair_bytes table cap list bytes words)
      (repair_words table cap list bytes words)
  pub judge : (table list : List ℕ) → JudgeAnswers table list (judge_verdict table list)
  pub label : (table list buffer : List ℕ)
      → LabelLeaves table list (label_verdict table list (length buffer)) buffer (label_buffer table list buffer)
  pub holding : (table list buffer : List ℕ)
      → HoldingLeaves table list (holding_answer table list (length buffer)) buffer (holding_buffer table list buffer)
  pub read : (text buffer : List ℕ) → ReadLeaves text (read_answer text buffer) buffer (read_buffer text buffer)
  pub batch : (bytes : List ℕ) (cap : ℕ) (lists work words : List ℕ) (answers : List Answer)
      → BatchLeaves bytes cap (batch_end bytes cap lists work words answers) lists work words answers
      (batch_lists bytes cap lists work words answers) (batch_bytes bytes cap lists work words answers)
      (batch_words bytes cap lists work words answers) (batch_answers bytes cap lists work words answers)
  -- to C each answer is a number
  pub numbers : NumbersTell
