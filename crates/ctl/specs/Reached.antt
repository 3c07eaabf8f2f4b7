-- The reached states, computed, and striking: Specification, "Kept lists" and "Repairs".
use Rattle.std.specs.Prelude.{ℕ, Bool, cond, ◌&&◌, List, map, length, get_or}
use Rattle.table.specs.declared.operator.Family.TheVariants.{Eventually}
use Rattle.table.specs.declared.record.Step.{Step}
use Rattle.table.specs.Table.{Table, step_at, initial_at}
use Rattle.ctl.specs.Rule.{some}
use Rattle.ctl.specs.Range.{tabulate}
use Rattle.ctl.specs.Levels.{has, levels}
use Rattle.ctl.specs.Labels.{kept_steps, ends_from, is_kept}

abbrev pub is_initial_kept : Table → List ℕ → ℕ → Bool
is_initial_kept T list s = initial_at T s && is_kept T list s

-- the kept initial states
abbrev pub start_set : Table → List ℕ → List Bool
start_set T list = tabulate (length T.states) (is_initial_kept T list)

-- the step turned round
abbrev pub reversed : Step → Step
reversed x = record { from = x.to; to = x.from; price = x.price }

-- the states from which a kept step leads to s
abbrev pub sources : Table → List ℕ → ℕ → List ℕ
sources T list s = ends_from (map reversed (kept_steps T.steps list)) s

-- Level 0 is the kept initial states, and a level has besides these each state to which a kept step leads from the
-- level below: EF, along the steps reversed. Level n is the last that can have more than the one below.
unfoldable pub reached_set : Table → List ℕ → List Bool
reached_set T list = levels Eventually some (sources T list) (length T.states) (start_set T list) (start_set T list)

abbrev pub is_reached : Table → List ℕ → ℕ → Bool
is_reached T list s = has (reached_set T list) s

-- Striking: every step out of a state that is not reached is struck, and every other is as before.
unfoldable pub strike : Table → List ℕ → List ℕ
strike T list = tabulate (length T.steps) (λ j. cond (is_reached T list (step_at T j).from) (get_or list j 0) 0)
