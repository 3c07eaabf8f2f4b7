-- Repair, decided by labels, in both senses: the judge's tests 11, 12, 16 and 13, and its verdict on any bytes.
use Rattle.std.specs.Prelude.{ℕ, Bool, not, ◌&&◌, ◌||◌, List, length}
use Rattle.table.specs.declared.refusal.Refusal.TheVariants.{NotTotal, NoInitialKept, RootFails, UnreachedStep}
use Rattle.table.specs.Verdict.{Verdict, require, ◌then◌}
use Rattle.table.specs.Table.{Table, table_of}
use Rattle.table.specs.Accept.{all, any, table_verdict, list_verdict}
use Rattle.ctl.specs.Rule.{root_index}
use Rattle.ctl.specs.Range.{below}
use Rattle.ctl.specs.Labels.{kept_steps, is_kept, marked}
use Rattle.ctl.specs.Reached.{is_initial_kept, is_reached}

abbrev pub states : Table → List ℕ
states T = below (length T.states)

-- 11: each kept step ends in a kept state
abbrev pub is_total : Table → List ℕ → Bool
is_total T list = all (λ x. is_kept T list x.to) (kept_steps T.steps list)

-- 12: an initial state is kept
abbrev pub keeps_initial : Table → List ℕ → Bool
keeps_initial T list = any (is_initial_kept T list) (states T)

-- 16: each kept step leaves a reached state
abbrev pub leaves_reached : Table → List ℕ → Bool
leaves_reached T list = all (λ x. is_reached T list x.from) (kept_steps T.steps list)

-- 13: the root is marked at every kept initial state
abbrev pub root_marked : Table → List ℕ → Bool
root_marked T list = all (λ s. not (is_initial_kept T list s) || marked T list (root_index T) s) (states T)

-- of a list of the table's form: a repair in the wider sense
abbrev pub is_repair : Table → List ℕ → Bool
is_repair T list = is_total T list && keeps_initial T list && root_marked T list

-- and a repair in the narrower sense: 11, 12, 16 and 13 in this order
abbrev pub narrow_tests : Table → List ℕ → Verdict
narrow_tests T list =
    require NotTotal (is_total T list)
    then require NoInitialKept (keeps_initial T list)
    then require UnreachedStep (leaves_reached T list)
    then require RootFails (root_marked T list)

-- 2 to 9, 11, 12, 16 and 13 in this order, of any bytes
unfoldable pub judge_verdict : List ℕ → List ℕ → Verdict
judge_verdict table list =
    table_verdict table
    then list_verdict (length (table_of table).steps) list
    then narrow_tests (table_of table) list
