-- What the step rows know of each step.
use Rattle.std.specs.Prelude.{ℕ, ◌+◌, Bool, true, false, ◌||◌, List}
use Rattle.table.specs.declared.record.Step.{Step}
use Rattle.rows.specs.Row.{known}
use Rattle.rows.specs.Words.{row_at, step_place}

-- the word of the steps out of s that are known with this sign
abbrev pub word_of : Bool → ℕ → ℕ
word_of true s = step_place s
word_of false s = step_place s + 1

-- whether a step is known with this sign, and whether it is known either way
abbrev pub step_bit : List ℕ → Bool → Step → Bool
step_bit rows sign x = known (row_at rows (step_place x.from)) sign x.to

abbrev pub step_settled : List ℕ → Step → Bool
step_settled rows x = step_bit rows true x || step_bit rows false x
