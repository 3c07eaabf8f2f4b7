-- The evaluation of a list gives each gate its value.
use Prim.Native.Nat.{ℕ, suc, pred, ◌<◌}
use native.Mathlib.Omega.{arith}
use mathlib.Core.Path.{◌≡◌, refl, sym, ap, ap₂, ◌∙◌}
use mathlib.Core.Bool.{Bool, true, false, not, ◌&&◌, ◌||◌, and-true, or-false}
use mathlib.Core.List.{List, [], ◌∷◌, map}
use lib.ListN.{length}
use Rattle.sets.specs.Member.{member}
use Rattle.table.specs.declared.operator.Family.{Family}
use Rattle.table.specs.declared.operator.Family.TheVariants.{Release, Until, Eventually, Always}
use Rattle.table.specs.Table.{Table, state_at, node_at, step_at}
use Rattle.table.specs.Accept.{all as all_of, any as any_of}
use Rattle.table.specs.Facts.{Wellformed}
use Rattle.ctl.specs.Rule.{
  Quantifier,
  every,
  some,
  Operator,
  constant,
  atom,
  negation,
  conjunction,
  disjunction,
  next,
  fixpoint,
  operator_of,
}
use Rattle.ctl.proofs.BottomUp.{OfChildren, of-children}
use Rattle.circuit.specs.Logic.{Literal, pos, neg, Gate, all}
use Rattle.circuit.specs.Variables.{Var, step, node, edge, ahead, inner, level, steps_out, value}
use Rattle.circuit.specs.Gates.{
  Defined,
  edge_gate,
  ahead_gate,
  constant_gate,
  is,
  at_states,
  edges,
  join_gates,
  level_gates,
  node_gates,
  kept_gates,
  gates,
}
use Rattle.circuit.proofs.Lists.{Each, each_more, each_one, each_append, each_map, each_over}
use Rattle.circuit.proofs.Value.{value_cases}
use Rattle.circuit.proofs.Gate.{beq_sign, makes, gate_value}
use Rattle.circuit.proofs.Quantified.{quantified, join, quantified_same, quantified_map}
use Rattle.circuit.proofs.Evaluate.{
  edge_value,
  Shape,
  shape,
  shape_at,
  inner_value,
  keeps,
  kept_value,
  ahead_value,
  level_value,
  values_of,
  node_value,
  node_value_lem,
  level_of,
  assignment,
}

-- ---- the values of gates

module _ (α : Var → Bool) where
  pos_value : (v : Var) → makes α (pos v) ≡ α v
  pos_value v = beq_sign (α v) true

  neg_value : (v : Var) → makes α (neg v) ≡ not (α v)
  neg_value v = beq_sign (α v) false

  constant_value : (b : Bool) → gate_value α (constant_gate b) ≡ b
  unfolding gate_value all_of any_of
  constant_value true = refl
  constant_value false = refl

  -- one input
  one_value : (l : Literal Var) → gate_value α (all (l ∷ [])) ≡ makes α l
  unfolding gate_value all_of
  one_value l = and-true (makes α l)

  -- two inputs
  two_value : (q : Quantifier) (k l : Literal Var)
      → gate_value α (ahead_gate q (k ∷ l ∷ [])) ≡ join q (makes α k) (makes α l)
  unfolding gate_value all_of any_of
  two_value every k l = ap (λ (b : Bool). makes α k && b) (and-true (makes α l))
  two_value some k l = ap (λ (b : Bool). makes α k || b) (or-false (makes α l))

  -- two variables
  two_pos : (q : Quantifier) (u v : Var) → gate_value α (ahead_gate q (pos u ∷ pos v ∷ [])) ≡ join q (α u) (α v)
  two_pos q u v = two_value q (pos u) (pos v) ∙ ap₂ (join q) (pos_value u) (pos_value v)

  -- a step and what is at its end
  edge_value_lem : (q : Quantifier) (j : ℕ) (end : Var)
      → gate_value α (edge_gate q j end) ≡ edge_value q (α (step j)) (α end)
  edge_value_lem every j end = two_value some (neg (step j)) (pos end) ∙ ap₂ ◌||◌ (neg_value (step j)) (pos_value end)
  edge_value_lem some j end = two_pos every (step j) end

  quantified_value : (q : Quantifier) (ls : List (Literal Var))
      → gate_value α (ahead_gate q ls) ≡ quantified q (makes α) ls
  unfolding gate_value
  quantified_value every ls = refl
  quantified_value some ls = refl

  -- a variable for each step
  ahead_value_lem : (q : Quantifier) (f : ℕ → Var) (js : List ℕ)
      → gate_value α (ahead_gate q (map (λ j. pos (f j)) js)) ≡ quantified q (λ j. α (f j)) js
  ahead_value_lem q f js =
      quantified_value q (map (λ j. pos (f j)) js)
      ∙ quantified_map q (makes α) (λ j. pos (f j)) js
      ∙ quantified_same q _ _ js (λ j m. pos_value (f j))

-- ---- the values of the outputs

module _ (T : Table) (list : List ℕ) where
  abbrev α : Var → Bool
  α = assignment T list

  -- the output of the gate has the gate's value
  abbrev Right : Defined → Type 0
  Right d = α d.output ≡ gate_value α d.gate

  -- X of a node with this operator
  node_is : Wellformed T → (i : ℕ) → i < length T.nodes → (o : Operator) → operator_of (node_at T i) ≡ o → (s : ℕ)
      → node_value T list i s ≡ values_of T list o (node_value T list) s
  node_is wf i h o e s = ap (λ (f : ℕ → Bool). f s) (node_value_lem T list wf i h)
      ∙ ap (λ (o : Operator). values_of T list o (node_value T list) s) e

  -- the variable of X has its value: level n for a kind with levels
  pub value_right : Wellformed T → (i : ℕ) → i < length T.nodes → (s : ℕ) → α (value T i s) ≡ node_value T list i s
  unfolding assignment values_of
  value_right wf i h s = value_cases T (λ v. α v ≡ node_value T list i s) i s refl
      (λ f q a b e. ap (λ (o : Operator). level_of T list (shape o) (length T.states) s) e
      ∙ sym (node_is wf i h (fixpoint f q a b) e s))

  module _ (i : ℕ) (f : Family) (q : Quantifier) (a b : ℕ) (is-shape : shape_at T i ≡ (f, q, a, b)) where
    -- level m of node i
    abbrev lower : ℕ → ℕ → Bool
    lower = level_value T list f q (node_value T list a) (node_value T list b)

    -- what its variables are, in terms of the level below
    edge_is : (m j : ℕ) → α (edge i m j) ≡ edge_value q (keeps T list j) (lower (pred m) (step_at T j).to)
    unfolding assignment
    edge_is m j =
        ap (λ (p : Shape). edge_value p.1 (keeps T list j) (level_of T list p (pred m) (step_at T j).to)) is-shape

    ahead_is : (m s : ℕ) → α (ahead i m s) ≡ ahead_value T list q (lower (pred m)) s
    unfolding assignment
    ahead_is m s = ap (λ (p : Shape). ahead_value T list p.1 (level_of T list p (pred m)) s) is-shape

    -- the step gates of node i at level m, over the level below
    edges_right : (m : ℕ) (end : ℕ → Var) → ((t : ℕ) → α (end t) ≡ lower (pred m) t) → (s : ℕ)
        → Each Right (edges T q i m end s)
    unfolding assignment
    edges_right m end ends s = each_map _ _ (steps_out T s) (λ j h.
        edge_is m j ∙ sym (edge_value_lem α q j (end (step_at T j).to)
        ∙ ap (edge_value q (keeps T list j)) (ends (step_at T j).to)))

    -- the gate over them
    ahead_right : (m s : ℕ) → gate_value α (ahead_gate q (map (λ j. pos (edge i m j)) (steps_out T s)))
        ≡ ahead_value T list q (lower (pred m)) s
    unfolding ahead_value
    ahead_right m s =
        ahead_value_lem α q (edge i m) (steps_out T s) ∙ quantified_same q _ _ (steps_out T s) (λ j h. edge_is m j)

    level-is : (m s : ℕ) → α (level i m s) ≡ lower m s
    unfolding assignment
    level-is m s = ap (λ (p : Shape). level_of T list p m s) is-shape

    inner_is : (m s : ℕ) → α (inner i m s)
        ≡ inner_value f (node_value T list a s) (ahead_value T list q (lower (pred m)) s)
    unfolding assignment
    inner_is m s = ap (λ (p : Shape). inner_value p.0 (node_value T list p.2 s)
        (ahead_value T list p.1 (level_of T list p (pred m)) s)) is-shape

  -- G and the level, over N
  join_right : (f : Family) (q : Quantifier) (i a b : ℕ) → shape_at T i ≡ (f, q, a, b)
      → ((s : ℕ) → α (value T a s) ≡ node_value T list a s) → ((s : ℕ) → α (value T b s) ≡ node_value T list b s)
      → (m s : ℕ)
      → Each Right (join_gates T f i a b (suc m) s)
  unfolding level_value
  join_right Release q i a b e left right m s =
      let N = ahead_is i Release q a b e (suc m) s in
      let G = inner_is i Release q a b e (suc m) s in
      each_more _ _ _ (G ∙ sym (two_pos α some (value T a s) (ahead i (suc m) s) ∙ ap₂ ◌||◌ (left s) N))
      (each_one _ _ (level-is i Release q a b e (suc m) s
      ∙ sym (two_pos α every (value T b s) (inner i (suc m) s) ∙ ap₂ ◌&&◌ (right s) G)))
  join_right Until q i a b e left right m s =
      let N = ahead_is i Until q a b e (suc m) s in
      let G = inner_is i Until q a b e (suc m) s in
      each_more _ _ _ (G ∙ sym (two_pos α every (value T a s) (ahead i (suc m) s) ∙ ap₂ ◌&&◌ (left s) N))
      (each_one _ _ (level-is i Until q a b e (suc m) s
      ∙ sym (two_pos α some (value T b s) (inner i (suc m) s) ∙ ap₂ ◌||◌ (right s) G)))
  join_right Eventually q i a b e left right m s =
      let N = ahead_is i Eventually q a b e (suc m) s in
      each_one _ _ (level-is i Eventually q a b e (suc m) s
      ∙ sym (two_pos α some (value T b s) (ahead i (suc m) s) ∙ ap₂ ◌||◌ (right s) N))
  join_right Always q i a b e left right m s =
      let N = ahead_is i Always q a b e (suc m) s in
      each_one _ _ (level-is i Always q a b e (suc m) s
      ∙ sym (two_pos α every (value T b s) (ahead i (suc m) s) ∙ ap₂ ◌&&◌ (right s) N))

  -- the gates of a level above 0
  level_right : (f : Family) (q : Quantifier) (i a b : ℕ) → shape_at T i ≡ (f, q, a, b)
      → ((s : ℕ) → α (value T a s) ≡ node_value T list a s) → ((s : ℕ) → α (value T b s) ≡ node_value T list b s)
      → (m s : ℕ)
      → Each Right (level_gates T f q i a b m s)
  level_right f q i a b e left right m s = each_append _ (edges T q i (suc m) (level i m) s) _
      (edges_right i f q a b e (suc m) (level i m) (level-is i f q a b e m) s)
      (each_more _ _ _ (ahead_is i f q a b e (suc m) s ∙ sym (ahead_right i f q a b e (suc m) s))
      (join_right f q i a b e left right m s))

  module _ (wf : Wellformed T) (i : ℕ) (h : i < length T.nodes) where
    -- a gate for each state
    plain_right : (o : Operator) → operator_of (node_at T i) ≡ o → (G : ℕ → Gate Var)
        → ((s : ℕ) → gate_value α (G s) ≡ values_of T list o (node_value T list) s)
        → Each Right (at_states T (λ s. is (node i s) (G s) ∷ []))
    unfolding assignment
    plain_right o e G values =
        each_over (length T.states) _ _ (λ s l. each_one _ _ (node_is wf i h o e s ∙ sym (values s)))

    -- the gates of a node
    node_right : (o : Operator) → operator_of (node_at T i) ≡ o
        → OfChildren (λ a. (s : ℕ) → α (value T a s) ≡ node_value T list a s) o
        → Each Right (node_gates T i o)
    unfolding node_gates values_of level_value assignment
    node_right (constant b) e c = plain_right _ e _ (λ s. constant_value α b)
    node_right (atom p) e c = plain_right _ e _ (λ s. constant_value α (member (state_at T s).label p))
    node_right (negation a) e c =
        plain_right _ e _ (λ s. one_value α (neg (value T a s)) ∙ neg_value α (value T a s) ∙ ap not (c s))
    node_right (conjunction a b) e c =
        plain_right _ e _ (λ s. two_pos α every (value T a s) (value T b s) ∙ ap₂ ◌&&◌ (c.0 s) (c.1 s))
    node_right (disjunction a b) e c =
        plain_right _ e _ (λ s. two_pos α some (value T a s) (value T b s) ∙ ap₂ ◌||◌ (c.0 s) (c.1 s))
    node_right (next q a) e c = each_over (length T.states) _ _ (λ s l. each_append _ (edges T q i 0 (value T a) s) _
        (edges_right i Release q a a (ap shape e) 0 (value T a) c s)
        (each_one _ _ (node_is wf i h _ e s ∙ sym (ahead_right i Release q a a (ap shape e) 0 s))))
    node_right (fixpoint f q a b) e c = each_append _ (at_states T _) _
        (each_over (length T.states) _ _ (λ s l.
        each_one _ _ (level-is i f q a b (ap shape e) 0 s
        ∙ sym (one_value α (pos (value T b s)) ∙ pos_value α (value T b s) ∙ c.1 s))))
        (each_over (length T.states) _ _
        (λ m l. each_over (length T.states) _ _ (λ s k. level_right f q i a b (ap shape e) c.0 c.1 m s)))

  -- the gates of K
  kept_right : Each Right (kept_gates T)
  unfolding assignment kept_value
  kept_right = each_over (length T.states) _ _ (λ s l. each_one _ _ (sym (ahead_value_lem α some step (steps_out T s))))

  -- The assignment gives each gate of the table its value.
  pub gates_right : Wellformed T → Each Right (gates T)
  unfolding gates
  gates_right wf = each_append _ (kept_gates T) _ kept_right (each_over (length T.nodes) _ _ (λ i h.
      node_right wf i h (operator_of (node_at T i)) refl
      (of-children T wf i h (λ a l. value_right wf a (omega arith)))))
