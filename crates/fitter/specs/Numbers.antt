-- What the numbers tell that C gets.
use Rattle.std.specs.Prelude.{◌≡◌, ◌↔◌, [], ◌∷◌, map}
use Rattle.table.specs.declared.refusal.Refusal.{Refusal}
use Rattle.table.specs.declared.refusal.Refusal.TheVariants.{
  SheetForm,
  Length,
  Counts,
  StateRecord,
  NoInitial,
  StepEnd,
  RepeatedStep,
  NodeRecord,
  ListForm,
  ShortBuffer,
  NotTotal,
  NoInitialKept,
  RootFails,
  UnreachedStep,
  NotTables,
}
use Rattle.table.specs.Verdict.{refusal_number}
use Rattle.search.specs.declared.answer.Answer.{Answer}
use Rattle.search.specs.declared.answer.Answer.TheVariants.{Refused}
use Rattle.search.specs.Answer.{answer_number, IsFound, IsNone, IsSpent}

pub record NumbersTell : Type 0 where
  -- the number of each refusal
  pub numbers : map refusal_number (
      SheetForm
      ∷ Length
      ∷ Counts
      ∷ StateRecord
      ∷ NoInitial
      ∷ StepEnd
      ∷ RepeatedStep
      ∷ NodeRecord
      ∷ ListForm
      ∷ ShortBuffer
      ∷ NotTotal
      ∷ NoInitialKept
      ∷ RootFails
      ∷ UnreachedStep
      ∷ NotTables
      ∷ []
      )
      ≡ 1 ∷ 2 ∷ 3 ∷ 4 ∷ 5 ∷ 6 ∷ 7 ∷ 8 ∷ 9 ∷ 10 ∷ 11 ∷ 12 ∷ 13 ∷ 16 ∷ 17 ∷ []
  -- no two refusals have the same number, and none has 0, which says that nothing is refused
  pub distinct : (q r : Refusal) → refusal_number q ≡ refusal_number r → q ≡ r
  pub not_zero : (r : Refusal) → ¬ (refusal_number r ≡ 0)
  -- Repair's number is 0 for found, 14 for none and 15 for spent, and for nothing else
  pub found : (answer : Answer) → (answer_number answer ≡ 0) ↔ IsFound answer
  pub none : (answer : Answer) → (answer_number answer ≡ 14) ↔ IsNone answer
  pub spent : (answer : Answer) → (answer_number answer ≡ 15) ↔ IsSpent answer
  -- a refusal's number is given for that refusal alone
  pub refused : (answer : Answer) (r : Refusal) → (answer_number answer ≡ refusal_number r) ↔ (answer ≡ Refused r)
