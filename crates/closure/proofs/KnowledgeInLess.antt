-- Rows that know less: what a row knows stays known as bits come, and a memory that knows less than one inside a set
-- is inside it too.
use Prim.Native.Nat.{ℕ, ◌+◌, ◌*◌, ◌-◌}
use mathlib.Core.Bool.{Bool, true, false, cond}
use mathlib.Core.List.{List}
use lib.Dec.{eqb}
use lib.ListN.{length}
use Rattle.table.specs.Table.{Table, node_at}
use Rattle.circuit.specs.Logic.{Literal}
use Rattle.circuit.specs.Variables.{Var}
use Rattle.rows.specs.declared.row.Report.{Report}
use Rattle.rows.specs.Row.{Within}
use Rattle.rows.specs.Words.{row_at, step_place}
use Rattle.ctl.specs.Rule.{operator_of}
use Rattle.closure.specs.Knowledge.{Knowledge, knowledge, level_base, second_child, level_row}
use Rattle.propagate.specs.Memory.{Memory, node_place, kept_place}
use Rattle.closure.specs.KnowledgeIn.{KnowledgeIn}
use Rattle.closure.specs.Advance.{Grows, Advance}

-- of one row
pub rows_within : (ws vs : List ℕ) → Grows ws vs → (at : ℕ) → Within (row_at ws at) (row_at vs at)
rows_within ws vs g at s true = g at s
rows_within ws vs g at s false = g (at + 1) s

module _ (T : Table) (M N : Memory) (rows : Grows M.rows N.rows) (words : Grows M.words N.words) where
  -- of a level
  pub level_within : (i b m : ℕ) → Within (level_row T M i b m) (level_row T N i b m)
  level_within i b m = go (eqb m 0) (eqb m (length T.states))
    where
      place : ℕ
      place = level_base T i + 2 * (m - 1)

      go : (p q : Bool) → Within
          (cond p (row_at M.rows (node_place b)) (cond q (row_at M.rows (node_place i)) (row_at M.words place)))
          (cond p (row_at N.rows (node_place b)) (cond q (row_at N.rows (node_place i)) (row_at N.words place)))
      go true q = rows_within M.rows N.rows rows (node_place b)
      go false true = rows_within M.rows N.rows rows (node_place i)
      go false false = rows_within M.words N.words words place

  pub inside_less : (S : Literal Var → Type 0) → KnowledgeIn T S (knowledge T N) → KnowledgeIn T S (knowledge T M)
  inside_less S inside = record {
    steps = λ s l sign t k. inside.steps s l sign t (rows_within M.rows N.rows rows (step_place s) t sign k);
    kept = λ sign s k. inside.kept sign s (rows_within M.rows N.rows rows kept_place s sign k);
    nodes = λ i h sign s k. inside.nodes i h sign s (rows_within M.rows N.rows rows (node_place i) s sign k);
    levels = λ i fam q a b m h e l sign s k. inside.levels i fam q a b m h e l sign s
        (level_within i (second_child (operator_of (node_at T i))) m s sign k);
  }

-- so what is inside after an advance was inside before it
pub advance_less : {T : Table} {Q : Knowledge → Type 0} {M N : Memory} {r : Report} → Advance T Q M N r
    → (S : Literal Var → Type 0) → KnowledgeIn T S (knowledge T N) → KnowledgeIn T S (knowledge T M)
advance_less {T} {Q} {M} {N} a = inside_less T M N a.grows_rows a.grows_words
