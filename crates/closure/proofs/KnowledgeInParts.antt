-- What lies inside by the places of the memory: the rows and the levels that have words of their own say all of it,
-- since the first and the last level of a fixed-point node are rows of nodes.
use Prim.Native.Nat.{ℕ, ◌+◌, ◌*◌, ◌-◌, ◌≤◌, ◌<◌}
use native.Mathlib.Omega.{arith}
use mathlib.Core.Path.{◌≡◌, refl, sym, ap, subst}
use mathlib.Core.Bool.{Bool, true, false, cond}
use mathlib.Core.List.{Memᴰ}
use borrow.Author.Tests.{eqb-true, eqb-false, eq-eqb, ne_eqb}
use lib.Dec.{eqb}
use lib.ListN.{length}
use Rattle.table.specs.declared.operator.Family.{Family}
use Rattle.table.specs.Table.{Table, node_at}
use Rattle.table.specs.Facts.{Wellformed}
use Rattle.ctl.specs.Rule.{Quantifier, fixpoint, operator_of}
use Rattle.ctl.proofs.BottomUp.{OfChildren, children_below}
use Rattle.circuit.specs.Logic.{Literal}
use Rattle.circuit.specs.Variables.{Var, kept, level, value}
use Rattle.circuit.specs.Clauses.{Clause, clauses}
use Rattle.rows.specs.Words.{row_at, step_place}
use Rattle.closure.specs.Knowledge.{level_base, second_child, level_row, knowledge}
use Rattle.propagate.specs.Memory.{Memory, node_place, kept_place}
use Rattle.closure.specs.KnowledgeIn.{RowIn, StepsIn, KnowledgeIn}
use Rattle.closure.proofs.Forced.{ClauseClosed}
use Rattle.closure.proofs.NodeSound.{first_in, last_in}

-- the children of a fixed-point node stand before it
pub fixpoint_below : (T : Table) → Wellformed T → (i : ℕ) (fam : Family) (q : Quantifier) (a b : ℕ)
    → i < length T.nodes → operator_of (node_at T i) ≡ fixpoint fam q a b
    → (a < i) × (b < i)
fixpoint_below T wf i fam q a b h e = subst (OfChildren (λ k. k < i)) e (children_below T wf i h)

-- the place of level m of node i
abbrev pub word_place : Table → ℕ → ℕ → ℕ
word_place T i m = level_base T i + 2 * (m - 1)

module _ (T : Table) (M : Memory) (i b : ℕ) where
  -- the row of a level between the first and the last, and of the last
  level_inner : (m : ℕ) → 0 < m → m < length T.states → level_row T M i b m ≡ row_at M.words (word_place T i m)
  level_inner m l h = rw (ne_eqb m 0 (omega arith), ne_eqb m (length T.states) (omega arith))

  pub level_last : 0 < length T.states → level_row T M i b (length T.states) ≡ row_at M.rows (node_place i)
  level_last h = rw (ne_eqb (length T.states) 0 (omega arith), eq-eqb (length T.states) (length T.states) refl)

module _ (T : Table) (wf : Wellformed T) (S : Literal Var → Type 0) (closed : (C : Clause) → Memᴰ C (clauses T)
    → ClauseClosed S C) (M : Memory) where
  -- the levels that have words of their own
  abbrev pub InnerIn : Type 0
  InnerIn = (i : ℕ) (fam : Family) (q : Quantifier) (a b m : ℕ) → i < length T.nodes
      → operator_of (node_at T i) ≡ fixpoint fam q a b → 0 < m → m < length T.states
      → RowIn T S (level i m) (row_at M.words (word_place T i m))

  pub inner_of : KnowledgeIn T S (knowledge T M) → InnerIn
  inner_of inside i fam q a b m h e l k = rw (level_inner T M i (second_child (operator_of (node_at T i))) m l k) at
      (inside.levels i fam q a b m h e (omega arith))

  pub inside_of : ((s : ℕ) → s < length T.states → StepsIn T S s (row_at M.rows (step_place s)))
      → RowIn T S kept (row_at M.rows kept_place)
      → ((i : ℕ) → i < length T.nodes → RowIn T S (value T i) (row_at M.rows (node_place i))) → InnerIn
      → KnowledgeIn T S (knowledge T M)
  inside_of steps keeps nodes inner = record {
    steps = steps;
    kept = keeps;
    nodes = nodes;
    levels = λ i fam q a b m h e l. levels i fam q a b m h e l (eqb m 0) (eqb m (length T.states)) refl refl;
  }
    where
      levels : (i : ℕ) (fam : Family) (q : Quantifier) (a b m : ℕ) → i < length T.nodes
          → operator_of (node_at T i) ≡ fixpoint fam q a b → m ≤ length T.states
          → (first last : Bool) → eqb m 0 ≡ first → eqb m (length T.states) ≡ last
          → RowIn T S (level i m) (cond first (row_at M.rows (node_place (second_child (operator_of (node_at T i)))))
          (cond last (row_at M.rows (node_place i)) (row_at M.words (word_place T i m))))
      levels i fam q a b m h e l true last f g =
          subst (λ (k : ℕ). RowIn T S (level i k)
          (row_at M.rows (node_place (second_child (operator_of (node_at T i)))))) (sym (eqb-true m 0 f))
          (first_in T wf S closed i h fam q a b e _
          (subst (λ (k : ℕ). RowIn T S (value T b) (row_at M.rows (node_place k))) (sym (ap second_child e))
          (nodes b (omega (arith, (fixpoint_below T wf i fam q a b h e).1)))))
      levels i fam q a b m h e l false true f g =
          subst (λ (k : ℕ). RowIn T S (level i k) (row_at M.rows (node_place i))) (sym (eqb-true m (length T.states) g))
          (last_in T wf S closed i h fam q a b e _ (nodes i h))
      levels i fam q a b m h e l false false f g =
          inner i fam q a b m h e (omega (arith, eqb-false m 0 f)) (omega (arith, eqb-false m (length T.states) g))
