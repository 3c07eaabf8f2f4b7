-- What a fixed-point kind says of the fullpaths from a state: its quantifier ranges over them, and its family speaks
-- of each.
use Rattle.std.specs.Prelude.{ℕ}
use Rattle.table.specs.declared.operator.Family.{Family}
use Rattle.table.specs.declared.operator.Family.TheVariants.{Release, Until, Eventually, Always}
use Rattle.ctl.specs.Meaning.{Fullpath, Released, UntilAlong, EventuallyAlong, AlwaysAlong}
use Rattle.ctl.specs.Rule.{Quantifier, every, some}

-- what holds along every fullpath from s, or along some
abbrev pub OnPaths : Quantifier → (ℕ → ℕ → Type 0) → ℕ → ((ℕ → ℕ) → Type 0) → Type 0
OnPaths every next s P = (π : ℕ → ℕ) → Fullpath next s π → P π
OnPaths some next s P = (π : ℕ → ℕ) × Fullpath next s π × P π

-- what a family says along a path
abbrev pub Along : Family → (ℕ → Type 0) → (ℕ → Type 0) → (ℕ → ℕ) → Type 0
Along Release a b π = Released a b π
Along Until a b π = UntilAlong a b π
Along Eventually a b π = EventuallyAlong b π
Along Always a b π = AlwaysAlong b π
