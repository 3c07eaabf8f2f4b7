-- What the call on a batch promises: which bytes it takes, and that each table gets in its turn what the repairer alone
-- gives under the allowance that is then left.
use Rattle.std.specs.Prelude.{ℕ, suc, ◌+◌, ◌≤◌, ◌<◌, ◌≡◌, List, length, get_or, replicate, Some, unwrap_or}
use Rattle.table.specs.declared.refusal.Refusal.{Refusal}
use Rattle.table.specs.declared.refusal.Refusal.TheVariants.{
  SheetForm,
  Length,
  Counts,
  StateRecord,
  NoInitial,
  StepEnd,
  RepeatedStep,
  NodeRecord,
  ListForm,
  ShortBuffer,
  NotTotal,
  NoInitialKept,
  RootFails,
  UnreachedStep,
  NotTables,
}
use Rattle.table.specs.Buffer.{Written}
use Rattle.ctl.specs.Price.{sum_below}
use Rattle.search.specs.declared.answer.Answer.{Answer}
use Rattle.search.specs.declared.answer.Answer.TheVariants.{None as Nothing}
use Rattle.search.specs.Answer.{answer_choices}
use Rattle.repair.specs.Effect.{repair_answer, repair_list}
use Rattle.repair.specs.Right.{LongEnough, RepairIsRight}
use Rattle.batch.specs.Batch.{IsBatch, table_at, steps_before, part, allowance, most_variables}

-- the buffers are long enough for these tables
pub record RoomFor (tables : List (List ℕ)) (lists bytes words answers : ℕ) : Type 0 where
  pub lists_long : steps_before tables (length tables) ≤ lists
  pub bytes_long : most_variables tables ≤ bytes
  pub words_long : most_variables tables ≤ words
  pub answers_long : length tables ≤ answers

-- which bytes and buffers are taken: a batch, with room for its tables
abbrev pub BatchTaken : List ℕ → ℕ → ℕ → ℕ → ℕ → Type 0
BatchTaken bytes lists work words answers =
    (tables : List (List ℕ)) × IsBatch bytes tables × RoomFor tables lists work words answers

-- for which each refusal is given: the bytes are no batch; or they are one, and a buffer is too short
abbrev pub BatchRefused : List ℕ → ℕ → ℕ → ℕ → ℕ → Refusal → Type 0
BatchRefused bytes lists work words answers NotTables = (tables : List (List ℕ)) → ¬ IsBatch bytes tables
BatchRefused bytes lists work words answers ShortBuffer =
    (tables : List (List ℕ)) × IsBatch bytes tables × ¬ RoomFor tables lists work words answers
-- nothing else is given
BatchRefused bytes lists work words answers SheetForm = ⊥
BatchRefused bytes lists work words answers Length = ⊥
BatchRefused bytes lists work words answers Counts = ⊥
BatchRefused bytes lists work words answers StateRecord = ⊥
BatchRefused bytes lists work words answers NoInitial = ⊥
BatchRefused bytes lists work words answers StepEnd = ⊥
BatchRefused bytes lists work words answers RepeatedStep = ⊥
BatchRefused bytes lists work words answers NodeRecord = ⊥
BatchRefused bytes lists work words answers ListForm = ⊥
BatchRefused bytes lists work words answers NotTotal = ⊥
BatchRefused bytes lists work words answers NoInitialKept = ⊥
BatchRefused bytes lists work words answers RootFails = ⊥
BatchRefused bytes lists work words answers UnreachedStep = ⊥

-- an answer by its number; past the end none, which is not looked at
abbrev pub answer_number_at : List Answer → ℕ → Answer
answer_number_at answers k = get_or answers k (Nothing 0 0)

-- the choices that an answer carries; a refusal carries none
abbrev pub choices_in : Answer → ℕ
choices_in answer = unwrap_or (answer_choices answer) 0

-- Of one table under a cap, with its part of the lists before and after: the answer and the list are those of the
-- repairer alone, whatever the work buffers are; what they mean; and the choices, which are taken off the cap.
pub record TableRight (table : List ℕ) (cap left : ℕ) (answer : Answer) (before after : List ℕ) : Type 0 where
  pub alone : (bytes words : List ℕ) → LongEnough table before bytes words
      → (answer ≡ repair_answer table cap before bytes words) × (after ≡ repair_list table cap before bytes words)
  pub right : RepairIsRight table cap answer before after
  pub used : (c : ℕ) × (answer_choices answer ≡ Some c) × (c + left ≡ cap)

-- what a batch is given, in order, and that all else stays
pub record BatchIsRight (bytes : List ℕ) (cap count left : ℕ) (answers answers' : List Answer)
    (lists lists' work work' words words' : List ℕ) : Type 0 where
  pub tables : List (List ℕ)
  pub batch : IsBatch bytes tables
  pub counted : count ≡ length tables
  -- table k, under what the tables before it have left; what it leaves is for the next one
  pub each : (k : ℕ) → k < length tables
      → TableRight (table_at tables k) (allowance tables cap k) (allowance tables cap (suc k))
      (answer_number_at answers' k) (part tables k lists) (part tables k lists')
  -- and what the last one leaves is handed back
  pub left_over : left ≡ allowance tables cap (length tables)
  -- so all choices and what is left add up to the cap
  pub adds_up : sum_below (length tables) (λ k. choices_in (answer_number_at answers' k)) + left ≡ cap
  -- answers and bytes behind those of the last table stay
  pub answers_stay : (length answers' ≡ length answers)
      × ((k : ℕ) → length tables ≤ k → answer_number_at answers' k ≡ answer_number_at answers k)
  pub lists_stay : (length lists' ≡ length lists)
      × ((j : ℕ) → steps_before tables (length tables) ≤ j → get_or lists' j 0 ≡ get_or lists j 0)
  -- as many entries of the work buffers as the largest V are 0, and the others stay
  pub work_cleared : Written (replicate (most_variables tables) 0) work work'
  pub words_cleared : Written (replicate (most_variables tables) 0) words words'

-- bytes are a batch of some tables in one way only
abbrev pub BatchesAreUnique : Type 0
BatchesAreUnique =
    (bytes : List ℕ) (tables others : List (List ℕ))
    → IsBatch bytes tables → IsBatch bytes others → tables ≡ others
