-- Which bytes each refusal of a table is given for: what fails, and that all that is tested before it holds.
use Rattle.std.specs.Prelude.{ℕ, ◌^◌, ◌≤◌, ◌<◌, ◌≡◌, ◌⊎◌, List, length}
use Rattle.table.specs.declared.counts.Counts.{Counts}
use Rattle.table.specs.declared.refusal.Refusal.{Refusal}
use Rattle.table.specs.declared.refusal.Refusal.TheVariants.{
  SheetForm,
  Length,
  Counts as CountsRefused,
  StateRecord,
  NoInitial,
  StepEnd,
  RepeatedStep,
  NodeRecord,
  ListForm,
  ShortBuffer,
  NotTotal,
  NoInitialKept,
  RootFails,
  UnreachedStep,
  NotTables,
}
use Rattle.table.specs.Table.{Table, table_of, counts_of, packed_length, header_width, state_at, step_at}
pub use Rattle.table.specs.Facts.{NoStepTwice, NodesFit}

pub record CountsFit (c : Counts) : Type 0 where
  pub some_state : 1 ≤ c.states
  pub few_states : c.states ≤ 32
  pub few_steps : c.steps ≤ 128
  pub some_node : 1 ≤ c.nodes
  pub few_nodes : c.nodes ≤ 32
  pub few_props : c.props ≤ 16

-- a header whose counts fit, and as many bytes as they say
pub record RightLength (bytes : List ℕ) : Type 0 where
  pub header : header_width ≤ length bytes
  pub counts : CountsFit (counts_of bytes)
  pub whole : length bytes ≡ packed_length (counts_of bytes)

abbrev pub StatesFit : Table → Type 0
StatesFit T = (s : ℕ) → s < length T.states → ((state_at T s).initial ≤ 1) × ((state_at T s).label < 2 ^ T.props)

abbrev pub SomeInitial : Table → Type 0
SomeInitial T = (s : ℕ) × (s < length T.states) × ((state_at T s).initial ≡ 1)

abbrev pub EndsAreStates : Table → Type 0
EndsAreStates T =
    (j : ℕ) → j < length T.steps → ((step_at T j).from < length T.states) × ((step_at T j).to < length T.states)

abbrev pub TableRefused : List ℕ → Refusal → Type 0
TableRefused bytes Length =
    (length bytes < header_width)
    ⊎ ((header_width ≤ length bytes) × CountsFit (counts_of bytes) × ¬ (length bytes ≡ packed_length (counts_of bytes)))
TableRefused bytes CountsRefused = (header_width ≤ length bytes) × ¬ CountsFit (counts_of bytes)
TableRefused bytes StateRecord = RightLength bytes × ¬ StatesFit (table_of bytes)
TableRefused bytes NoInitial = RightLength bytes × StatesFit (table_of bytes) × ¬ SomeInitial (table_of bytes)
TableRefused bytes StepEnd =
    RightLength bytes × StatesFit (table_of bytes) × SomeInitial (table_of bytes) × ¬ EndsAreStates (table_of bytes)
TableRefused bytes RepeatedStep =
    RightLength bytes
    × StatesFit (table_of bytes)
    × SomeInitial (table_of bytes)
    × EndsAreStates (table_of bytes)
    × ¬ NoStepTwice (table_of bytes)
TableRefused bytes NodeRecord =
    RightLength bytes
    × StatesFit (table_of bytes)
    × SomeInitial (table_of bytes)
    × EndsAreStates (table_of bytes)
    × NoStepTwice (table_of bytes)
    × ¬ NodesFit (table_of bytes)
-- no table is refused for these
TableRefused bytes SheetForm = ⊥
TableRefused bytes ListForm = ⊥
TableRefused bytes ShortBuffer = ⊥
TableRefused bytes NotTotal = ⊥
TableRefused bytes NoInitialKept = ⊥
TableRefused bytes RootFails = ⊥
TableRefused bytes UnreachedStep = ⊥
TableRefused bytes NotTables = ⊥
