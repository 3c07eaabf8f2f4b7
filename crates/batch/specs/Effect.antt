-- What the call on a batch answers, and what each buffer holds afterwards, for all inputs.
use Rattle.std.specs.Prelude.{
  ℕ,
  zero,
  suc,
  ◌+◌,
  ◌-◌,
  Bool,
  true,
  false,
  ◌&&◌,
  List,
  [],
  ◌∷◌,
  ◌++◌,
  leb,
  length,
  take,
  drop,
  Option,
  Some,
  None,
  Result,
  Ok,
  Err,
}
use Rattle.table.specs.declared.refusal.Refusal.{Refusal}
use Rattle.table.specs.declared.refusal.Refusal.TheVariants.{NotTables, ShortBuffer}
use Rattle.table.specs.Table.{table_of}
use Rattle.table.specs.Verdict.{Verdict}
use Rattle.table.specs.Accept.{table_verdict}
use Rattle.table.specs.First.{first_bytes, bytes_behind}
use Rattle.search.specs.TableSearch.{search_under}
use Rattle.search.specs.Answer.{answer_of}
use Rattle.search.specs.declared.answer.Answer.{Answer}
use Rattle.repair.specs.Effect.{written_after, cleared}
use Rattle.batch.specs.declared.BatchEnd.{BatchEnd}
use Rattle.batch.specs.Batch.{most_tables, steps_in, used, most_variables}

-- ---- the cut

-- a table in front of those behind it, where it is accepted and they are some
abbrev pub in_front : List ℕ → Verdict → Option (List (List ℕ)) → Option (List (List ℕ))
in_front t (Ok tt) (Some ts) = Some (t ∷ ts)
in_front t (Ok tt) None = None
in_front t (Err r) rest = None

-- nothing where there are more bytes
abbrev pub no_more : List ℕ → Option (List (List ℕ))
no_more [] = Some []
no_more (b ∷ bs) = None

-- the tables that the bytes are end to end, at most so many; none where they are not such tables
unfoldable pub tables_in : ℕ → List ℕ → Option (List (List ℕ))
tables_in zero bytes = no_more bytes
tables_in (suc most) [] = Some []
tables_in (suc most) (b ∷ bs) =
    in_front (first_bytes (b ∷ bs)) (table_verdict (first_bytes (b ∷ bs))) (tables_in most (bytes_behind (b ∷ bs)))

-- the same, with none for no table
abbrev pub at_least_one : Option (List (List ℕ)) → Option (List (List ℕ))
at_least_one (Some []) = None
at_least_one (Some (t ∷ ts)) = Some (t ∷ ts)
at_least_one None = None

abbrev pub batch_in : List ℕ → Option (List (List ℕ))
batch_in bytes = at_least_one (tables_in most_tables bytes)

-- ---- what tables need and get

unfoldable pub all_steps : List (List ℕ) → ℕ
all_steps [] = 0
all_steps (t ∷ ts) = steps_in t + all_steps ts

-- the answers, in order, from this allowance
unfoldable pub answers_of : List (List ℕ) → ℕ → List Answer
answers_of [] cap = []
answers_of (t ∷ ts) cap = answer_of (search_under (table_of t) cap) ∷ answers_of ts (cap - used t cap)

-- the lent lists afterwards
unfoldable pub lists_after : List (List ℕ) → ℕ → List ℕ → List ℕ
lists_after [] cap lists = lists
lists_after (t ∷ ts) cap lists =
    written_after (table_of t) (search_under (table_of t) cap) (take (steps_in t) lists)
    ++ lists_after ts (cap - used t cap) (drop (steps_in t) lists)

-- what is left in the end
unfoldable pub left_after : List (List ℕ) → ℕ → ℕ
left_after [] cap = cap
left_after (t ∷ ts) cap = left_after ts (cap - used t cap)

-- ---- the call

-- the buffers are long enough: a byte for each step, an entry for each variable of the largest circuit, an answer for
-- each table
abbrev pub room_for : List (List ℕ) → ℕ → ℕ → ℕ → ℕ → Bool
room_for ts lists bytes words answers =
    leb (all_steps ts) lists && leb (most_variables ts) bytes && leb (most_variables ts) words
    && leb (length ts) answers

-- the tests: of the tables, then of the buffers
abbrev pub room_verdict : Option (List (List ℕ)) → ℕ → ℕ → ℕ → ℕ → Result (List (List ℕ)) Refusal
room_verdict None lists bytes words answers = Err NotTables
room_verdict (Some ts) lists bytes words answers =
    elim (room_for ts lists bytes words answers) [ true ↦ Ok ts | false ↦ Err ShortBuffer ]

-- what a call gives and leaves that has these tables, and what it leaves where it is refused
abbrev pub end_of : Result (List (List ℕ)) Refusal → ℕ → Result BatchEnd Refusal
end_of (Ok ts) cap = Ok (record { tables = length ts; left = left_after ts cap })
end_of (Err r) cap = Err r

abbrev pub on_tables : {A : Type 0} → Result (List (List ℕ)) Refusal → (List (List ℕ) → A) → A → A
on_tables (Ok ts) written before = written ts
on_tables (Err r) written before = before

-- the call, for all bytes, every cap and four buffers
module _ (bytes : List ℕ) (cap : ℕ) (lists work words : List ℕ) (answers : List Answer) where
  abbrev pub batch_verdict : Result (List (List ℕ)) Refusal
  batch_verdict = room_verdict (batch_in bytes) (length lists) (length work) (length words) (length answers)

  abbrev pub batch_end : Result BatchEnd Refusal
  batch_end = end_of batch_verdict cap

  abbrev pub batch_lists : List ℕ
  batch_lists = on_tables batch_verdict (λ ts. lists_after ts cap lists) lists

  abbrev pub batch_bytes : List ℕ
  batch_bytes = on_tables batch_verdict (λ ts. cleared (most_variables ts) work) work

  abbrev pub batch_words : List ℕ
  batch_words = on_tables batch_verdict (λ ts. cleared (most_variables ts) words) words

  abbrev pub batch_answers : List Answer
  batch_answers = on_tables batch_verdict (λ ts. answers_of ts cap ++ drop (length ts) answers) answers
