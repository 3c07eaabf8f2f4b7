-- What C gets of a batch.
use Rattle.std.specs.Prelude.{ℕ, List, ◌++◌, length, map, drop, Result, Ok, Err}
use Rattle.table.specs.declared.refusal.Refusal.{Refusal}
use Rattle.table.specs.Verdict.{refusal_number}
use Rattle.search.specs.declared.answer.Answer.{Answer}
use Rattle.search.specs.declared.answer.Answer.TheVariants.{Found, None, Spent, Refused}
use Rattle.batch.specs.declared.BatchEnd.{BatchEnd}
use Rattle.repair.specs.Effect.{cleared}
use Rattle.batch.specs.Batch.{most_variables}
use Rattle.batch.specs.Effect.{batch_in, room_verdict, end_of, on_tables, answers_of, lists_after}
use Rattle.fitter_c.specs.declared.table_answer.TableAnswer.{TableAnswer}

-- an answer as C has it: 0 found, 14 none, 15 spent, or the number of a refusal
abbrev pub for_c : Answer → TableAnswer
for_c (Found p c k) = record { choices = c; number = 0; price = p; settled = k }
for_c (None c k) = record { choices = c; number = 14; price = 0; settled = k }
for_c (Spent c k) = record { choices = c; number = 15; price = 0; settled = k }
for_c (Refused r) = record { choices = 0; number = refusal_number r; price = 0; settled = 0 }

-- the answers that C lends, afterwards: one for each table at the front, and the others as they were
abbrev pub answers_for_c : Result (List (List ℕ)) Refusal → ℕ → List TableAnswer → List TableAnswer
answers_for_c v cap answers = on_tables v (λ ts. map for_c (answers_of ts cap) ++ drop (length ts) answers) answers

-- the numbers that C lends, afterwards
abbrev pub tables_for_c : Result BatchEnd Refusal → ℕ → ℕ
tables_for_c (Ok end) before = end.tables
tables_for_c (Err r) before = before

abbrev pub left_for_c : Result BatchEnd Refusal → ℕ → ℕ
left_for_c (Ok end) before = end.left
left_for_c (Err r) before = before

-- the call, for all bytes, every cap and four buffers
module _ (parcel : List ℕ) (cap : ℕ) (lists bytes words : List ℕ) (answers : List TableAnswer) where
  abbrev pub parcel_verdict : Result (List (List ℕ)) Refusal
  parcel_verdict = room_verdict (batch_in parcel) (length lists) (length bytes) (length words) (length answers)

  abbrev pub parcel_lists : List ℕ
  parcel_lists = on_tables parcel_verdict (λ ts. lists_after ts cap lists) lists

  abbrev pub parcel_bytes : List ℕ
  parcel_bytes = on_tables parcel_verdict (λ ts. cleared (most_variables ts) bytes) bytes

  abbrev pub parcel_words : List ℕ
  parcel_words = on_tables parcel_verdict (λ ts. cleared (most_variables ts) words) words

  abbrev pub parcel_answers : List TableAnswer
  parcel_answers = answers_for_c parcel_verdict cap answers

  abbrev pub parcel_tables : ℕ → ℕ
  parcel_tables = tables_for_c (end_of parcel_verdict cap)

  abbrev pub parcel_left : ℕ → ℕ
  parcel_left = left_for_c (end_of parcel_verdict cap)
