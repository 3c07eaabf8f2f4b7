-- What each refusal of a list means, in the words of a repair: which part fails, and that all that is tested before
-- it holds.
use Rattle.std.specs.Prelude.{ℕ, ◌≤◌, ◌<◌, List}
use Rattle.table.specs.declared.refusal.Refusal.{Refusal}
use Rattle.table.specs.declared.refusal.Refusal.TheVariants.{
  ListForm,
  ShortBuffer,
  NotTotal,
  NoInitialKept,
  RootFails,
  UnreachedStep,
}
use Rattle.table.specs.Table.{table_of}
use Rattle.table.specs.Facts.{IsTable}
use Rattle.table.specs.Refused.{TableRefused}
use Rattle.ctl.specs.Kept.{IsList, Total, KeepsInitial, OnlyReached, RuleHolds}

-- The judge's refusals. The parts are tested in the order of the list's form, total, an initial state kept, only
-- reached states left, and the rule.
module _ (table list : List ℕ) where
  abbrev pub JudgeRefused : Refusal → Type 0
  JudgeRefused ListForm = IsTable table × ¬ IsList (table_of table) list
  JudgeRefused NotTotal = IsTable table × IsList (table_of table) list × ¬ Total (table_of table) list
  JudgeRefused NoInitialKept =
      IsTable table × IsList (table_of table) list × Total (table_of table) list × ¬ KeepsInitial (table_of table) list
  JudgeRefused UnreachedStep =
      IsTable table
      × IsList (table_of table) list
      × Total (table_of table) list
      × KeepsInitial (table_of table) list
      × ¬ OnlyReached (table_of table) list
  JudgeRefused RootFails =
      IsTable table
      × IsList (table_of table) list
      × Total (table_of table) list
      × KeepsInitial (table_of table) list
      × OnlyReached (table_of table) list
      × ¬ RuleHolds (table_of table) list
  JudgeRefused r = TableRefused table r

-- The refusals of Label and Holding, which need a buffer of so many `entries` and are lent `room`. The room is tested
-- before the list is found to be total.
module _ (entries room : ℕ) (table list : List ℕ) where
  abbrev pub ListRefused : Refusal → Type 0
  ListRefused ListForm = IsTable table × ¬ IsList (table_of table) list
  ListRefused ShortBuffer = IsTable table × IsList (table_of table) list × (room < entries)
  ListRefused NotTotal =
      IsTable table × IsList (table_of table) list × (entries ≤ room) × ¬ Total (table_of table) list
  ListRefused r = TableRefused table r
