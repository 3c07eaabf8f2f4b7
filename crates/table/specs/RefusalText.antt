-- What a refusal says when it is printed.
use Rattle.std.specs.Prelude.{ℕ, List, codes}
use Rattle.table.specs.declared.refusal.Refusal.{Refusal}
use Rattle.table.specs.declared.refusal.Refusal.TheVariants.{
  SheetForm,
  Length,
  Counts,
  StateRecord,
  NoInitial,
  StepEnd,
  RepeatedStep,
  NodeRecord,
  ListForm,
  ShortBuffer,
  NotTotal,
  NoInitialKept,
  RootFails,
  UnreachedStep,
  NotTables,
}

abbrev pub refusal_text : Refusal → List ℕ
refusal_text SheetForm = codes "the text is not of sheet form"
refusal_text Length = codes "the table is shorter than 4 bytes, or not as long as its counts say"
refusal_text Counts = codes "a count of the table is outside its range"
refusal_text StateRecord = codes "initial is above 1, or a label bit is at p or above"
refusal_text NoInitial = codes "no state is initial"
refusal_text StepEnd = codes "an end of a step is n or more"
refusal_text RepeatedStep = codes "two steps have the same ends"
refusal_text NodeRecord = codes "a node's kind is above 15, or its fields do not fit the kind"
refusal_text ListForm = codes "the list is not e bytes of 0 or 1"
refusal_text ShortBuffer = codes "a lent buffer is too short"
refusal_text NotTotal = codes "a kept step ends in a state that is not kept"
refusal_text NoInitialKept = codes "no initial state is kept"
refusal_text RootFails = codes "the root fails at a kept initial state"
refusal_text UnreachedStep = codes "a kept step leaves a state that is not reached"
refusal_text NotTables = codes "the bytes are not one to eight accepted tables end to end"
