-- The rules of K, of the initial states and of each node without levels as functions of the memory. The code's
-- contracts equate with these.
use Rattle.std.specs.Prelude.{ℕ, true, false, cond, List, eqb, get_or}
use Rattle.sets.specs.Member.{set_of}
use Rattle.table.specs.Table.{states_part}
use Rattle.table.specs.StateSets.{labelled_word}
use Rattle.ctl.specs.Rule.{Operator, constant, atom, negation, conjunction, disjunction, next, fixpoint}
use Rattle.rows.specs.Rules.{kept_row, kept_back, open_starts, start_kept, start_root, constant_row}
use Rattle.closure.specs.Dual.{is_every}
use Rattle.rows.specs.Words.{row_at, step_place}
use Rattle.propagate.specs.Memory.{
  Memory,
  node_place,
  kept_place,
  Stepped,
  failing,
  ◌and_then◌,
  add_row,
  add_step,
  node_row,
}
use Rattle.propagate.specs.Gates.{one_input_step, both_step, next_step}

-- ---- nodes

-- at the states of `look`, where the node reads steps; a fixed point has its levels in place of these
module _ (table targets : List ℕ) (n : ℕ) (look : ℕ) (i : ℕ) where
  unfoldable pub node_step : Operator → Memory → Stepped
  node_step (constant b) M = add_row (node_place i) (constant_row n (set_of n (λ s. b))) M
  node_step (atom p) M = add_row (node_place i) (constant_row n (labelled_word (states_part table) n p)) M
  node_step (negation a) M = one_input_step i false a M
  node_step (conjunction a b) M = cond (eqb a b) (one_input_step i true a M) (both_step i true a b M)
  node_step (disjunction a b) M = cond (eqb a b) (one_input_step i true a M) (both_step i false a b M)
  node_step (next q a) M = next_step targets n look i (is_every q) a M
  node_step (fixpoint fam q a b) M = failing false M

-- ---- K and the initial states

module _ (targets : List ℕ) where
  unfoldable pub kept_step : ℕ → Memory → Stepped
  kept_step s M =
      add_row kept_place (kept_row s (get_or targets s 0) (row_at M.rows (step_place s))) M
      and_then add_step s (kept_back s (get_or targets s 0) (row_at M.rows (step_place s)) (row_at M.rows kept_place))

unfoldable pub start_step : ℕ → ℕ → Memory → Stepped
start_step initial root M =
    failing (eqb (open_starts initial (row_at M.rows kept_place)) 0) M
    and_then add_row kept_place (start_kept initial (row_at M.rows kept_place) (node_row M root))
    and_then add_row (node_place root) (start_root initial (row_at M.rows kept_place))
