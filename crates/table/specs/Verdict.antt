-- The number of each refusal, and how tests are made one after the other: Specification, "Refusals".
use Rattle.std.specs.Prelude.{ℕ, Bool, true, false, Result, Ok, Err}
use Rattle.table.specs.declared.refusal.Refusal.{Refusal}
use Rattle.table.specs.declared.refusal.Refusal.TheVariants.{
  SheetForm,
  Length,
  Counts,
  StateRecord,
  NoInitial,
  StepEnd,
  RepeatedStep,
  NodeRecord,
  ListForm,
  ShortBuffer,
  NotTotal,
  NoInitialKept,
  RootFails,
  UnreachedStep,
  NotTables,
}

-- the answer of a test: accepted, or refused and why
abbrev pub Verdict : Type 0
Verdict = Result (Unit {0}) Refusal

abbrev pub refusal_number : Refusal → ℕ
refusal_number SheetForm = 1
refusal_number Length = 2
refusal_number Counts = 3
refusal_number StateRecord = 4
refusal_number NoInitial = 5
refusal_number StepEnd = 6
refusal_number RepeatedStep = 7
refusal_number NodeRecord = 8
refusal_number ListForm = 9
refusal_number ShortBuffer = 10
refusal_number NotTotal = 11
refusal_number NoInitialKept = 12
refusal_number RootFails = 13
refusal_number UnreachedStep = 16
refusal_number NotTables = 17

-- the number of a verdict, or of an answer that gives something: 0 where nothing is refused
abbrev pub verdict_number : {A : Type 0} → Result A Refusal → ℕ
verdict_number (Ok x) = 0
verdict_number (Err r) = refusal_number r

-- refused, for this reason, unless the test holds
abbrev pub require : Refusal → Bool → Verdict
require r true = (Ok tt)
require r false = Err r

infixr 20 ◌then◌
-- the first verdict that refuses, the left one tried first
abbrev pub ◌then◌ : Verdict → Verdict → Verdict
(Ok tt) then w = w
(Err r) then w = Err r
