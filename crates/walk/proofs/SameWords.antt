-- Words that agree on the words of the levels know the same: what lies between the literals and their closure still
-- does, and what rests still rests.
use Prim.Native.Nat.{ℕ, suc, ◌+◌, ◌*◌, ◌-◌, ◌≤◌, ◌<◌}
use native.Mathlib.Omega.{arith}
use mathlib.Core.Path.{◌≡◌, refl, sym, ap, subst₂, ◌∙◌}
use mathlib.Core.Bool.{Bool, true, false, cond}
use mathlib.Core.List.{List}
use borrow.Author.Tests.{eqb-false}
use lib.Dec.{eqb}
use lib.ListN.{length, get_or}
use Rattle.table.specs.declared.operator.Family.{Family}
use Rattle.table.specs.Table.{Table, node_at}
use Rattle.circuit.specs.Logic.{Literal}
use Rattle.circuit.specs.Variables.{Var}
use Rattle.ctl.specs.Rule.{
  Quantifier,
  every,
  some,
  Operator,
  constant,
  atom,
  negation,
  conjunction,
  disjunction,
  next,
  fixpoint,
  operator_of,
}
use Rattle.rows.specs.declared.row.Row.{Row}
use Rattle.rows.specs.Row.{known}
use Rattle.rows.specs.Words.{row_at}
use Rattle.propagate.specs.Memory.{memory, node_place}
use Rattle.closure.specs.Knowledge.{Knowledge, knowledge, level_total, level_base, second_child}
use Rattle.closure.specs.Rest.{RestBack, RestKept, RestBoth, RestSame, RestLevel, RestNode}
use Rattle.closure.specs.KnowledgeIn.{KnowledgeIn}
use Rattle.closure.specs.Advance.{ForcedBy}
use Rattle.closure.specs.Closes.{Between}
use Rattle.events.specs.Watched.{RestBut}
use Rattle.closure.proofs.LevelsFit.{level-place}

-- ---- rest does not depend on levels but those that the rules of the node are given

module _ (T : Table) (steps : ℕ → Row) (kept : Row) (nodes : ℕ → Row) (levels levels' : ℕ → ℕ → Row) where
  abbrev K : Knowledge
  K = record { steps = steps; kept = kept; nodes = nodes; levels = levels }

  abbrev K' : Knowledge
  K' = record { steps = steps; kept = kept; nodes = nodes; levels = levels' }

  pub kept_rests : (s : ℕ) → RestKept T K s → RestKept T K' s
  kept_rests s r = record { up = r.up; down = r.down; clear = r.clear; clear_kept = r.clear_kept }

  same_rests : (r q : Row) (s : ℕ) → RestSame T K r q s → RestSame T K' r q s
  same_rests r q s x = record { up = x.up; down = x.down }

  both_rest : (q : Quantifier) (i a b s : ℕ) → RestBoth T K q i a b s → RestBoth T K' q i a b s
  both_rest q i a b s x = record { up = x.up; left = x.left; right = x.right }

  gate_rests : (q : Quantifier) (i a b s : ℕ) (one : Bool)
      → cond one (RestSame T K (nodes i) (nodes a) s) (RestBoth T K q i a b s)
      → cond one (RestSame T K' (nodes i) (nodes a) s) (RestBoth T K' q i a b s)
  gate_rests q i a b s true = same_rests (nodes i) (nodes a) s
  gate_rests q i a b s false = both_rest q i a b s

  back_rests : (q : Quantifier) (ahead end : Row) (s : ℕ) → RestBack T K q ahead end s → RestBack T K' q ahead end s
  back_rests q ahead end s x = record { steps = x.steps; ends = x.ends }

  level_rests : (fam : Family) (q : Quantifier) (a b : ℕ) (level below : Row) (s : ℕ)
      → RestLevel T K fam q a b level below s → RestLevel T K' fam q a b level below s
  level_rests fam q a b level below s x = record {
    inner_clear = x.inner_clear;
    ahead_clear = x.ahead_clear;
    up = x.up;
    left = x.left;
    right = x.right;
    back = back_rests q _ below s x.back;
    clear = x.clear;
  }

  pub node_rests : (i : ℕ) (o : Operator) (s : ℕ)
      → ((fam : Family) (q : Quantifier) (a b m : ℕ) → o ≡ fixpoint fam q a b → m ≤ length T.states
      → levels i m ≡ levels' i m)
      → RestNode T K i o s → RestNode T K' i o s
  node_rests i (constant b) s same r = r
  node_rests i (atom p) s same r = r
  node_rests i (negation a) s same r = same_rests _ _ s r
  node_rests i (conjunction a b) s same r = gate_rests every i a b s (eqb a b) r
  node_rests i (disjunction a b) s same r = gate_rests some i a b s (eqb a b) r
  node_rests i (next q a) s same r = (r.0, back_rests q _ (nodes a) s r.1)
  node_rests i (fixpoint fam q a b) s same r = λ m h.
      subst₂ (λ level below. RestLevel T K' fam q a b level below s) (same fam q a b (suc m) refl h)
      (same fam q a b m refl (omega (arith, h)))
      (level_rests fam q a b (levels i (suc m)) (levels i m) s (r m h))

-- ---- the words of the levels

module _ (T : Table) (rows words words' : List ℕ) (agree : (k : ℕ) → k < level_total T
    → get_or words' k 0 ≡ get_or words k 0) where
  level_same : (i : ℕ) (fam : Family) (q : Quantifier) (a b m : ℕ) → i < length T.nodes
      → operator_of (node_at T i) ≡ fixpoint fam q a b → m ≤ length T.states
      → (knowledge T (memory rows words)).levels i m ≡ (knowledge T (memory rows words')).levels i m
  level_same i fam q a b m h o l = go (eqb m 0) (eqb m (length T.states)) refl refl
    where
      second : ℕ
      second = second_child (operator_of (node_at T i))

      at : ℕ
      at = level_base T i + 2 * (m - 1)

      go : (x y : Bool) → eqb m 0 ≡ x → eqb m (length T.states) ≡ y
          → cond x (row_at rows (node_place second)) (cond y (row_at rows (node_place i)) (row_at words at))
          ≡ cond x (row_at rows (node_place second)) (cond y (row_at rows (node_place i)) (row_at words' at))
      go true y e f = refl
      go false true e f = refl
      go false false e f =
          let n = length T.states in
          let place = level-place T i fam q a b h o in
          let some : ¬ (m ≡ 0) = eqb-false m 0 e in
          let inner : ¬ (m ≡ n) = eqb-false m n f in
          λ k. record {
            yes = sym (agree at (omega (arith, place, some, inner, l))) k;
            no = sym (agree (at + 1) (omega (arith, place, some, inner, l))) k;
          }

  pub words_inside : (F : Literal Var → Type 0) → KnowledgeIn T F (knowledge T (memory rows words))
      → KnowledgeIn T F (knowledge T (memory rows words'))
  words_inside F b = record {
    steps = b.steps;
    kept = b.kept;
    nodes = b.nodes;
    levels = λ i fam q x y m h o l sign s e. b.levels i fam q x y m h o l sign s
        (ap (λ (r : Row). known r sign s) (level_same i fam q x y m h o l) ∙ e);
  }

  pub words_between : (P : List (Literal Var)) → Between T P (memory rows words) → Between T P (memory rows words')
  words_between P b = record { of_steps = b.of_steps; above = b.above; below = words_inside (ForcedBy T P) b.below }

  pub words_rest : (set : ℕ) → RestBut T set (knowledge T (memory rows words))
      → RestBut T set (knowledge T (memory rows words'))
  words_rest set r = record {
    kept = λ s h out. kept_rests T _ _ _ _ _ s (r.kept s h out);
    nodes = λ i h s l out. let K = knowledge T (memory rows words) in let was = r.nodes i h s l out in (
      node_rests T K.steps K.kept K.nodes K.levels (knowledge T (memory rows words')).levels i
          (operator_of (node_at T i)) s (λ fam q a b m o t. level_same i fam q a b m h o t) was.0,
      was.1,
    );
  }
