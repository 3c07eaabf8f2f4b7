-- N of a node of kind `next`, and of each level of a fixed-point node: what the rows add to each other is forced.
use Prim.Native.Nat.{ℕ, suc, ◌<◌}
use mathlib.Core.Path.{◌≡◌}
use mathlib.Core.List.{Memᴰ}
use lib.ListN.{length}
use Rattle.table.specs.declared.operator.Family.{Family}
use Rattle.table.specs.Table.{Table, node_at}
use Rattle.table.specs.Facts.{Wellformed}
use Rattle.ctl.specs.Rule.{Quantifier, next, fixpoint, operator_of}
use Rattle.circuit.specs.Logic.{Literal}
use Rattle.circuit.specs.Variables.{Var, edge, ahead, level, value}
use Rattle.circuit.specs.Clauses.{Clause, clauses}
use Rattle.rows.specs.declared.row.Row.{Row}
use Rattle.rows.specs.Words.{SmallRow}
use Rattle.closure.specs.KnowledgeIn.{RowIn, StepsIn}
use Rattle.closure.proofs.Forced.{ClauseClosed}
use Rattle.closure.proofs.GateOf.{next_edge_gate, next_gate, level_edge_gate, ahead_gate_lem}
use Rattle.closure.proofs.AheadSound.{ahead_over, back_steps_of, back_end_of, ahead_in_lem, back_steps_in, back_end_in}

module _ (T : Table) (wf : Wellformed T) (S : Literal Var → Type 0) (closed : (C : Clause) → Memᴰ C (clauses T)
    → ClauseClosed S C)
    (i : ℕ) (h : i < length T.nodes) where
  module _ (q : Quantifier) (a : ℕ) (e : operator_of (node_at T i) ≡ next q a) where
    pub next_ahead_in : (x : ℕ → Row) → ((s : ℕ) → SmallRow (x s)) → (E : Row) → SmallRow E
        → ((s : ℕ) → s < length T.states → StepsIn T S s (x s))
        → RowIn T S (value T a) E → RowIn T S (value T i) (ahead_over T q x E)
    next_ahead_in = ahead_in_lem T wf S q (value T i) (value T a) (edge i 0) (next_edge_gate T wf S closed i h q a e)
        (next_gate T wf S closed i h q a e)

    pub next_back_steps_in : (s : ℕ) → s < length T.states → (x E A : Row) → SmallRow x → SmallRow E → StepsIn T S s x
        → RowIn T S (value T a) E → RowIn T S (value T i) A → StepsIn T S s (back_steps_of T q s x E A)
    next_back_steps_in s l x E A small-x small-E steps ends = back_steps_in T wf S q (value T i) (value T a) (edge i 0)
        (next_edge_gate T wf S closed i h q a e) (next_gate T wf S closed i h q a e) s l x E small-x small-E steps ends
        A

    pub next_back_end_in : (s : ℕ) → s < length T.states → (x E A : Row) → SmallRow x → SmallRow E → StepsIn T S s x
        → RowIn T S (value T a) E → RowIn T S (value T i) A → RowIn T S (value T a) (back_end_of T q s x E A)
    next_back_end_in s l x E A small-x small-E steps ends = back_end_in T wf S q (value T i) (value T a) (edge i 0)
        (next_edge_gate T wf S closed i h q a e) (next_gate T wf S closed i h q a e) s l x E small-x small-E steps ends
        A

  module _ (fam : Family) (q : Quantifier) (a b : ℕ) (e : operator_of (node_at T i) ≡ fixpoint fam q a b) (m : ℕ)
      (few : m < length T.states) where
    pub level_ahead_in : (x : ℕ → Row) → ((s : ℕ) → SmallRow (x s)) → (E : Row) → SmallRow E
        → ((s : ℕ) → s < length T.states → StepsIn T S s (x s))
        → RowIn T S (level i m) E → RowIn T S (ahead i (suc m)) (ahead_over T q x E)
    level_ahead_in = ahead_in_lem T wf S q (ahead i (suc m)) (level i m) (edge i (suc m))
        (level_edge_gate T wf S closed i h fam q a b e m few) (ahead_gate_lem T wf S closed i h fam q a b e m few)

    pub level_back_steps_in : (s : ℕ) → s < length T.states → (x E A : Row) → SmallRow x → SmallRow E → StepsIn T S s x
        → RowIn T S (level i m) E → RowIn T S (ahead i (suc m)) A → StepsIn T S s (back_steps_of T q s x E A)
    level_back_steps_in s l x E A small-x small-E steps ends =
        back_steps_in T wf S q (ahead i (suc m)) (level i m) (edge i (suc m))
        (level_edge_gate T wf S closed i h fam q a b e m few) (ahead_gate_lem T wf S closed i h fam q a b e m few) s l
        x E small-x small-E steps ends A

    pub level_back_end_in : (s : ℕ) → s < length T.states → (x E A : Row) → SmallRow x → SmallRow E → StepsIn T S s x
        → RowIn T S (level i m) E → RowIn T S (ahead i (suc m)) A → RowIn T S (level i m) (back_end_of T q s x E A)
    level_back_end_in s l x E A small-x small-E steps ends =
        back_end_in T wf S q (ahead i (suc m)) (level i m) (edge i (suc m))
        (level_edge_gate T wf S closed i h fam q a b e m few) (ahead_gate_lem T wf S closed i h fam q a b e m few) s l
        x E small-x small-E steps ends A
