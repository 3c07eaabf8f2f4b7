-- One step literal more: where all was at rest, all is but what reads the steps out of that step's state.
use Prim.Native.Nat.{ℕ, suc, ◌+◌, ◌*◌, ◌-◌, ◌≤◌, ◌<◌}
use native.Mathlib.Omega.{arith}
use mathlib.Core.Path.{◌≡◌, sym, ap, ◌∙◌}
use mathlib.Core.Bool.{Bool, true, false, cond, true≢false}
use mathlib.Core.List.{List}
use lib.Dec.{eqb}
use lib.ListN.{length}
use Rattle.sets.specs.Member.{member}
use Rattle.sets.proofs.Laws.{member-zero}
use Rattle.table.specs.Table.{Table, step_at, node_at}
use Rattle.table.specs.Facts.{Wellformed}
use Rattle.circuit.specs.Logic.{Literal}
use Rattle.circuit.specs.Variables.{Var}
use Rattle.ctl.specs.Rule.{Operator, operator_of}
use Rattle.rows.specs.declared.row.Row.{Row}
use Rattle.rows.specs.Row.{known, Within}
use Rattle.rows.specs.Words.{row_at}
use Rattle.propagate.specs.Memory.{Memory, memory, node_place, kept_place}
use Rattle.readers.specs.Reads.{reads_steps, AgreeAt}
use Rattle.closure.specs.Knowledge.{Knowledge, knowledge, Sized, second_child, level_base}
use Rattle.closure.specs.KnowledgeIn.{KnowledgeIn}
use Rattle.closure.specs.Advance.{ForcedBy}
use Rattle.events.specs.Watched.{SameKept, SameCell, More, RestBut}
use Rattle.closure.proofs.Ends.{target_true}
use Rattle.events.proofs.Closing.{small_knowledge}
use Rattle.closure.proofs.RestBackFull.{OfTable}
use Rattle.events.proofs.Frame.{frame_kept, frame_cell}
use Rattle.events.proofs.VisitAll.{cell_of, cells_of}
use Rattle.search.specs.StepRows.{with_step, changed_by}
use Rattle.walk.specs.Stands.{Resting}
use Rattle.walk.proofs.OneMore.{more_new}
use Rattle.walk.proofs.Chosen.{row_other, step_row_other, chosen_sized}

-- rows that are the same know the same, and so one lies within the other
row_agrees : (r q : Row) → q ≡ r → (s : ℕ) → AgreeAt s r q
row_agrees r q e s sign = ap (λ (x : Row). known x sign s) e

row_within : (r q : Row) → q ≡ r → Within r q
row_within r q e s sign k = row_agrees r q e s sign ∙ k

-- the steps that are known are of the table
pub steps_of_table : (T : Table) → Wellformed T → (M : Memory) (P : List (Literal Var))
    → KnowledgeIn T (ForcedBy T P) (knowledge T M) → OfTable T (knowledge T M)
steps_of_table T wf M P inside s h t e = let x = inside.steps s h true t e in (target_true T wf s t).1 (
  x.0,
  x.1,
  x.2,
  x.3,
)

module _ (T : Table) (wf : Wellformed T) (rows words : List ℕ) (sized : Sized T (memory rows words)) (sign : Bool)
    (j : ℕ) (inside : j < length T.steps) where
  abbrev next : List ℕ
  next = with_step T rows sign j

  abbrev K : Knowledge
  K = knowledge T (memory rows words)

  abbrev K' : Knowledge
  K' = knowledge T (memory next words)

  other : (p : ℕ) → 64 ≤ p → row_at next p ≡ row_at rows p
  other = row_other T wf rows words sized sign j inside

  levels_same : (i m : ℕ) → K'.levels i m ≡ K.levels i m
  levels_same i m = λ k. cond (eqb m 0) (other (node_place (second_child (operator_of (node_at T i)))) (omega arith) k)
      (cond (eqb m (length T.states)) (other (node_place i) (omega arith) k)
      (row_at words (level_base T i + 2 * (m - 1))))

  bits_come : More K K'
  bits_come = record {
    kept = row_within _ _ (other kept_place (omega arith));
    nodes = λ i. row_within _ _ (other (node_place i) (omega arith));
    levels = λ i m. row_within _ _ (levels_same i m);
  }

  -- a state that is not in the set is another than the step's
  apart : (s : ℕ) → member (changed_by T j) s ≡ false → K'.steps s ≡ K.steps s
  apart s out = step_row_other T wf rows words sized sign j inside s
      (λ e. true≢false (sym (more_new 0 (step_at T j).from (omega (arith, wf.from_state j inside, wf.few_states)))
      ∙ ap (member (changed_by T j)) (sym e) ∙ out))

  same_kept : (s : ℕ) → member (changed_by T j) s ≡ false → SameKept T K K' s
  same_kept s out = record {
    steps = apart s out;
    own = row_agrees _ _ (other kept_place (omega arith)) s;
    ends = λ t m. row_agrees _ _ (other kept_place (omega arith)) t;
  }

  same_cell : (i m : ℕ) (o : Operator) (s : ℕ) → (reads_steps o ≡ true → member (changed_by T j) s ≡ false)
      → SameCell T K K' i m o s
  same_cell i m o s out = record {
    own = λ plain. row_agrees _ _ (other (node_place i) (omega arith)) s;
    child = λ c e. row_agrees _ _ (other (node_place c) (omega arith)) s;
    ends = λ plain c e t l. row_agrees _ _ (other (node_place c) (omega arith)) t;
    steps = λ r. apart s (out r);
    levels = λ e. (row_agrees _ _ (levels_same i (suc m)) s, λ t l. row_agrees _ _ (levels_same i m) t);
  }

  pub chosen_rest : (P : List (Literal Var)) → KnowledgeIn T (ForcedBy T P) K → Resting T (memory rows words)
      → RestBut T (changed_by T j) (knowledge T (memory (with_step T rows sign j) words))
  chosen_rest P known_in rest = record {
    kept = λ s h out. frame_kept T K K' bits_come s (same_kept s out) (rest.kept s h (member-zero s));
    nodes = λ i l s h out.
        let o = operator_of (node_at T i) in
        cells_of T (memory next words) i o s wf.some_state (λ m few.
        frame_cell T wf K K' (small_knowledge sized)
        (small_knowledge (chosen_sized T wf rows words sized sign j inside))
        (steps_of_table T wf (memory rows words) P known_in) bits_come i m s h o (same_cell i m o s out)
        (cell_of T K i m o s few (rest.nodes i l s h (λ r. member-zero s))));
  }
