-- What program `fit` prints, as a function of the text that it reads.
use Rattle.std.specs.Prelude.{ℕ, Bool, true, false, List, leb, length, replicate, Ok, Err}
use Rattle.table.specs.declared.refusal.Refusal.TheVariants.{SheetForm}
use Rattle.table.specs.Verdict.{Verdict}
use Rattle.search.specs.declared.answer.Answer.{Answer}
use Rattle.search.specs.declared.answer.Answer.TheVariants.{Found, None, Spent, Refused}
use Rattle.sheet.specs.Form.{ascii}
use Rattle.report.specs.Texts.{counted, refused, found_text, cap}
use Rattle.sheet.specs.Parse.{parse}
use Rattle.reader.specs.Read.{packed, read_verdict}
use Rattle.repair.specs.Effect.{repair_answer, repair_list}

-- What is printed of Repair's answer and of the list that it leaves; none and spent are printed with the price 0. The
-- settled steps are not printed.
abbrev pub answer_text : List ℕ → Answer → List ℕ → List ℕ
answer_text table (Found price choices settled) list = found_text table price choices list
answer_text table (None choices settled) list = counted (ascii "none ") choices 0
answer_text table (Spent choices settled) list = counted (ascii "spent ") choices 0
answer_text table (Refused r) list = refused r

-- 128 list bytes and 10,000 work entries are lent, all zero at first
abbrev pub zeros : ℕ → List ℕ
zeros k = replicate k 0

-- what is printed of a table that is searched with at most so many choices
unfoldable pub table_text : ℕ → List ℕ → List ℕ
table_text most table =
    answer_text table
    (repair_answer table most (zeros 128) (zeros 10000) (zeros 10000))
    (repair_list table most (zeros 128) (zeros 10000) (zeros 10000))

-- what is printed of a text whose packed table has this verdict
abbrev pub verdict_text : ℕ → Verdict → List ℕ → List ℕ
verdict_text most (Ok tt) table = table_text most table
verdict_text most (Err r) table = refused r

-- A text of at most 4,096 bytes is read where there is room for each table, 580 bytes; a longer one is refused with 1.
abbrev pub limited : ℕ → Bool → List ℕ → List ℕ
limited most true text = verdict_text most (read_verdict text 580) (packed (parse text))
limited most false text = refused SheetForm

unfoldable pub text_under : ℕ → List ℕ → List ℕ
text_under most text = limited most (leb (length text) 4096) text

abbrev pub fit_text : List ℕ → List ℕ
fit_text text = text_under cap text
