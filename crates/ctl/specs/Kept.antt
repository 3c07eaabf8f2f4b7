-- Which steps and states a list keeps, which states it reaches, and when it is a repair: Specification, "Kept lists"
-- and "Repairs".
use Rattle.std.specs.Prelude.{ℕ, zero, suc, ◌≤◌, ◌<◌, ◌≡◌, true, List, length, get_or}
use Rattle.sets.specs.Member.{member}
use Rattle.table.specs.Table.{Table, state_at, step_at}
use Rattle.ctl.specs.Meaning.{Holds}
use Rattle.ctl.specs.Rule.{formula, root_index}

abbrev pub Initial : Table → ℕ → Type 0
Initial T s = (s < length T.states) × ((state_at T s).initial ≡ 1)

-- proposition p is in the label of s
abbrev pub Labelled : Table → ℕ → ℕ → Type 0
Labelled T s p = member (state_at T s).label p ≡ true

-- a kept list has e bytes, 1 kept, 0 struck
pub record IsList (T : Table) (list : List ℕ) : Type 0 where
  pub size : length list ≡ length T.steps
  pub bits : (j : ℕ) → j < length list → get_or list j 0 ≤ 1

-- a kept step leads from s to t
pub record Next (T : Table) (list : List ℕ) (s t : ℕ) : Type 0 where
  pub step : ℕ
  pub listed : step < length T.steps
  pub kept : get_or list step 0 ≡ 1
  pub leaves : (step_at T step).from ≡ s
  pub enters : (step_at T step).to ≡ t

-- a state is kept when a kept step leaves it
abbrev pub Kept : Table → List ℕ → ℕ → Type 0
Kept T list s = (t : ℕ) × Next T list s t

-- a list is total when each kept step ends in a kept state
abbrev pub Total : Table → List ℕ → Type 0
Total T list = (s t : ℕ) → Next T list s t → Kept T list t

-- node i holds at s, with the kept steps
abbrev pub NodeHolds : Table → List ℕ → ℕ → ℕ → Type 0
NodeHolds T list i s = Holds (Next T list) (Labelled T) (formula T i) s

-- k kept steps lead to s from a kept initial state
unfoldable pub ReachedIn : Table → List ℕ → ℕ → ℕ → Type 0
ReachedIn T list zero s = Initial T s × Kept T list s
ReachedIn T list (suc k) t = (s : ℕ) × ReachedIn T list k s × Next T list s t

-- A state is reached where kept steps lead to it from a kept initial state. Zero steps count: a kept initial state is
-- reached.
abbrev pub Reached : Table → List ℕ → ℕ → Type 0
Reached T list s = (k : ℕ) × ReachedIn T list k s

-- One list struck is the other: what leaves a state that is reached is as before, and every other step is struck.
pub record Struck (T : Table) (before after : List ℕ) : Type 0 where
  pub size : length after ≡ length T.steps
  pub reached : (j : ℕ) → j < length T.steps → Reached T before (step_at T j).from
      → get_or after j 0 ≡ get_or before j 0
  pub unreached : (j : ℕ) → j < length T.steps → ¬ Reached T before (step_at T j).from → get_or after j 0 ≡ 0

-- the parts of a repair besides its form and that it is total: an initial state is kept,
abbrev pub KeepsInitial : Table → List ℕ → Type 0
KeepsInitial T list = (s : ℕ) × Initial T s × Kept T list s

-- each kept step leaves a reached state,
abbrev pub OnlyReached : Table → List ℕ → Type 0
OnlyReached T list = (s t : ℕ) → Next T list s t → Reached T list s

-- and the root holds at every kept initial state
abbrev pub RuleHolds : Table → List ℕ → Type 0
RuleHolds T list = (s : ℕ) → Initial T s → Kept T list s → NodeHolds T list (root_index T) s

-- A repair in the wider sense: the list is total, at least one initial state is kept, and the root holds at every kept
-- initial state. None, and the rank of what the search finds, are promised of this sense.
pub record Repair (T : Table) (list : List ℕ) : Type 0 where
  pub form : IsList T list
  pub total : Total T list
  pub starts : KeepsInitial T list
  pub rule : RuleHolds T list

-- A repair in the narrower sense: besides, each kept step leaves a reached state. The list that is written is one, and
-- these are the lists that the judge accepts.
pub record NarrowRepair (T : Table) (list : List ℕ) : Type 0 where
  pub repair : Repair T list
  pub reached : OnlyReached T list
