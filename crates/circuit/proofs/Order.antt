-- The gates stand in order: the inputs of each are steps, or outputs of gates before it.
use Prim.Native.Nat.{ℕ, zero, suc, ◌-◌, ◌<◌}
use native.Mathlib.Omega.{arith}
use mathlib.Core.Path.{◌≡◌, refl, sym, subst}
use mathlib.Core.Bool.{Bool, true, false}
use mathlib.Core.Logic.{◌⊎◌, inl, inr, ⊎_elim}
use mathlib.Core.List.Memᴰ
use mathlib.Core.List.{List, [], ◌∷◌, Memᴰ}
use lib.ListN.{length}
use Rattle.sets.specs.Member.{member}
use Rattle.table.specs.declared.operator.Family.{Family}
use Rattle.table.specs.declared.operator.Family.TheVariants.{Release, Until, Eventually, Always}
use Rattle.table.specs.Table.{Table, state_at, node_at, step_at}
use Rattle.table.specs.Facts.{Wellformed}
use Rattle.ctl.specs.Rule.{
  Quantifier,
  every,
  some,
  Operator,
  constant,
  atom,
  negation,
  conjunction,
  disjunction,
  next,
  fixpoint,
  operator_of,
}
use Rattle.ctl.proofs.BottomUp.{OfChildren, of-children}
use Rattle.circuit.specs.Logic.{Literal, pos, neg, Gate, all}
use Rattle.circuit.specs.Variables.{Var, step, node, edge, ahead, inner, level, steps_out, value_of, value, variables}
use Rattle.circuit.specs.Gates.{
  Defined,
  is,
  edge_gate,
  ahead_gate,
  constant_gate,
  edges,
  join_gates,
  level_gates,
  at_states,
  node_gates,
  kept_gates,
  gates,
}
use Rattle.circuit.proofs.Lists.{Each, each_none, each_more, each_one, each_map, in_over, in_out}
use Rattle.circuit.proofs.Gate.{Reads}
use Rattle.circuit.proofs.Outputs.{outputs, variable_cases, step_variable, output_variable}
use Rattle.circuit.proofs.Follows.{
  Follows,
  After,
  follows_append,
  follows_tabulate,
  follows_each,
  follows_flat,
  follows_induction,
  follows_inputs,
}

-- ---- the gates of a node

-- two inputs
reads_two : (K : Var → Type 0) (k l : Literal Var) → K k.var → K l.var → Each (λ l. K l.var) (k ∷ l ∷ [])
reads_two K k l p q = each_more _ k (l ∷ []) p (each_one _ l q)

reads_constant : (K : Var → Type 0) (b : Bool) → Reads K (constant_gate b)
reads_constant K true = each_none _
reads_constant K false = each_none _

reads_edge : (K : Var → Type 0) (q : Quantifier) (j : ℕ) (end : Var) → K (step j) → K end → Reads K (edge_gate q j end)
reads_edge K every j end p r = reads_two K (neg (step j)) (pos end) p r
reads_edge K some j end p r = reads_two K (pos (step j)) (pos end) p r

reads_ahead : (K : Var → Type 0) (q : Quantifier) (ls : List (Literal Var)) → Each (λ l. K l.var) ls
    → Reads K (ahead_gate q ls)
reads_ahead K every ls p = p
reads_ahead K some ls p = p

-- the outputs of more gates
pub outputs_up : {v : Var} (xs ys : List Defined) → Each (λ d. Memᴰ d ys) xs → Memᴰ v (outputs xs) → Memᴰ v (outputs ys)
outputs_up xs ys up m = let r = Memᴰ.of_map (λ d. d.output) xs m in Memᴰ.cast (sym r.2)
    (Memᴰ.map (λ d. d.output) (up r.0 r.1))

-- P holds at each state
abbrev pub EachState : Table → (ℕ → Type 0) → Type 0
EachState T P = (s : ℕ) → s < length T.states → P s

module _ (T : Table) where
  -- the gate of each step out of s is an output
  edge_output : (q : Quantifier) (i m : ℕ) (end : ℕ → Var) (s j : ℕ) → Memᴰ j (steps_out T s)
      → Memᴰ (edge i m j) (outputs (edges T q i m end s))
  edge_output q i m end s j h =
      Memᴰ.map (λ d. d.output) (Memᴰ.map (λ j. is (edge i m j) (edge_gate q j (end (step_at T j).to))) h)

  -- the next level at each state is an output of its gates
  join_output : (f : Family) (i a b m s : ℕ) → Memᴰ (level i m s) (outputs (join_gates T f i a b m s))
  join_output Release i a b m s = Memᴰ.tail (Memᴰ.head refl)
  join_output Until i a b m s = Memᴰ.tail (Memᴰ.head refl)
  join_output Eventually i a b m s = Memᴰ.head refl
  join_output Always i a b m s = Memᴰ.head refl

  level_output : (f : Family) (q : Quantifier) (i a b m : ℕ)
      → EachState T (λ s. Memᴰ (level i (suc m) s) (outputs (at_states T (level_gates T f q i a b m))))
  level_output f q i a b m s h = outputs_up (join_gates T f i a b (suc m) s) (at_states T (level_gates T f q i a b m))
      (λ d k. in_over (length T.states) (level_gates T f q i a b m) s h
      (Memᴰ.append_right (edges T q i (suc m) (level i m) s) (Memᴰ.tail k)))
      (join_output f i a b (suc m) s)

  -- of a gate for each state, each is an output
  pub one_output : (f : ℕ → Var) (G : ℕ → Gate Var)
      → EachState T (λ s. Memᴰ (f s) (outputs (at_states T (λ s. is (f s) (G s) ∷ []))))
  one_output f G s h =
      Memᴰ.map (λ d. d.output) (in_over (length T.states) (λ s. is (f s) (G s) ∷ []) s h (Memᴰ.head refl))

  -- X of a node at each state is an output of the node's gates
  pub value_output : (i : ℕ) (o : Operator) → EachState T (λ s. Memᴰ (value_of T o i s) (outputs (node_gates T i o)))
  unfolding node_gates
  value_output i (constant b) s h = one_output (node i) _ s h
  value_output i (atom p) s h = one_output (node i) _ s h
  value_output i (negation a) s h = one_output (node i) _ s h
  value_output i (conjunction a b) s h = one_output (node i) _ s h
  value_output i (disjunction a b) s h = one_output (node i) _ s h
  value_output i (next q a) s h =
      Memᴰ.map (λ d. d.output)
      (in_over (length T.states) _ s h (Memᴰ.append_right (edges T q i 0 (value T a) s) (Memᴰ.head refl)))
  value_output i (fixpoint f q a b) s h =
      let n = length T.states in
      let last : suc (n - 1) ≡ n = omega arith in
      subst (λ (m : ℕ). Memᴰ (level i m s) (outputs (node_gates T i (fixpoint f q a b)))) last
      (outputs_up (at_states T (level_gates T f q i a b (n - 1))) (node_gates T i (fixpoint f q a b))
      (λ d m. Memᴰ.append_right (at_states T (λ s. is (level i 0 s) (all (pos (value T b s) ∷ [])) ∷ []))
      (in_over n (λ m. at_states T (level_gates T f q i a b m)) (n - 1) (omega arith) m))
      (level_output f q i a b (n - 1) s h))

-- G and the level read X of the children and N
join_follows : (T : Table) (K : Var → Type 0) (f : Family) (i a b m s : ℕ) → K (value T a s) → K (value T b s)
    → K (ahead i m s)
    → Follows K (join_gates T f i a b m s)
join_follows T K Release i a b m s left right N = (
  reads_two _ (pos (value T a s)) (pos (ahead i m s)) left N,
  (reads_two _ (pos (value T b s)) (pos (inner i m s)) (inl right) (inr refl), tt),
)
join_follows T K Until i a b m s left right N = (
  reads_two _ (pos (value T a s)) (pos (ahead i m s)) left N,
  (reads_two _ (pos (value T b s)) (pos (inner i m s)) (inl right) (inr refl), tt),
)
join_follows T K Eventually i a b m s left right N = (reads_two _ (pos (value T b s)) (pos (ahead i m s)) right N, tt)
join_follows T K Always i a b m s left right N = (reads_two _ (pos (value T b s)) (pos (ahead i m s)) right N, tt)

module _ (T : Table) (wf : Wellformed T) (K : Var → Type 0) (steps : (j : ℕ) → j < length T.steps → K (step j)) where
  -- the gates of steps read the steps and what is at their ends
  edges_follow : (q : Quantifier) (i m : ℕ) (end : ℕ → Var) → EachState T (λ t. K (end t)) → (s : ℕ)
      → Follows K (edges T q i m end s)
  edges_follow q i m end ends s = follows_flat K _ (each_map _ _ (steps_out T s) (λ j h.
      let r = (in_out T s j).0 h in reads_edge K q j _ (steps j r.0) (ends _ (wf.to_state j r.0))))

  -- a level reads X of the children and the level below
  level_follows : (f : Family) (q : Quantifier) (i a b m : ℕ) → EachState T (λ s. K (value T a s))
      → EachState T (λ s. K (value T b s))
      → EachState T (λ s. K (level i m s)) → Follows K (at_states T (level_gates T f q i a b m))
  level_follows f q i a b m left right lower = follows_each K (length T.states) _ (λ s h.
      follows_append K (edges T q i (suc m) (level i m) s) _ (edges_follow q i (suc m) (level i m) lower s) (
        reads_ahead _ q _ (each_map _ _ (steps_out T s) (λ j l. inr (edge_output T q i (suc m) (level i m) s j l))),
        join_follows T _ f i a b (suc m) s (inl (inl (left s h))) (inl (inl (right s h))) (inr refl),
      ))

module _ (T : Table) (wf : Wellformed T) (K : Var → Type 0) (steps : (j : ℕ) → j < length T.steps → K (step j)) where
  -- the gates of a node read the steps and X of its children
  node_follows : (i : ℕ) (o : Operator) → OfChildren (λ a. EachState T (λ s. K (value T a s))) o
      → Follows K (node_gates T i o)
  unfolding node_gates
  node_follows i (constant b) c = follows_each K (length T.states) _ (λ s h. (reads_constant K b, tt))
  node_follows i (atom p) c =
      follows_each K (length T.states) _ (λ s h. (reads_constant K (member (state_at T s).label p), tt))
  node_follows i (negation a) c =
      follows_each K (length T.states) _ (λ s h. (each_one _ (neg (value T a s)) (c s h), tt))
  node_follows i (conjunction a b) c =
      follows_each K (length T.states) _
      (λ s h. (reads_two K (pos (value T a s)) (pos (value T b s)) (c.0 s h) (c.1 s h), tt))
  node_follows i (disjunction a b) c =
      follows_each K (length T.states) _
      (λ s h. (reads_two K (pos (value T a s)) (pos (value T b s)) (c.0 s h) (c.1 s h), tt))
  node_follows i (next q a) c = follows_each K (length T.states) _ (λ s h.
      follows_append K (edges T q i 0 (value T a) s) _ (edges_follow T wf K steps q i 0 (value T a) c s)
      (reads_ahead _ q _ (each_map _ _ (steps_out T s) (λ j l. inr (edge_output T q i 0 (value T a) s j l))), tt))
  node_follows i (fixpoint f q a b) c =
      follows_append K (at_states T _) _
      (follows_each K (length T.states) _ (λ s h. (each_one _ (pos (value T b s)) (c.1 s h), tt)))
      (follows_tabulate _ (length T.states) _ (λ m. m) (λ m h.
      level_follows T wf _ (λ j l. inl (inl (steps j l))) f q i a b m (λ s l. inl (inl (c.0 s l)))
      (λ s l. inl (inl (c.1 s l))) (lower m)))
    where
      -- the level below is an output, of the first gates or of the level before
      lower : (m : ℕ) → EachState T
          (λ s. After K (at_states T (λ s. is (level i 0 s) (all (pos (value T b s) ∷ [])) ∷ [])) (level i m s)
          ⊎ ((k : ℕ) × (k < m) × Memᴰ (level i m s) (outputs (at_states T (level_gates T f q i a b k)))))
      lower zero s h = inl (inr (one_output T (level i 0) _ s h))
      lower (suc m) s h = inr (m, omega arith, level_output T f q i a b m s h)

-- ---- the gates of a table

-- the steps of the table, as variables
abbrev pub IsStep : Table → Var → Type 0
IsStep T v = (j : ℕ) × (j < length T.steps) × (step j ≡ v)

-- The inputs of each gate are steps, or outputs of gates before it.
pub gates_ordered : (T : Table) → Wellformed T → Follows (IsStep T) (gates T)
unfolding gates
gates_ordered T wf = follows_append (IsStep T) (kept_gates T) _
    (follows_each (IsStep T) (length T.states) _
    (λ s h. (each_map _ _ (steps_out T s) (λ j m. (j, ((in_out T s j).0 m).0, refl)), tt)))
    (follows_tabulate _ (length T.nodes) _ (λ i. i) (λ i h.
    node_follows T wf _ (λ j l. inl (inl (j, l, refl))) i (operator_of (node_at T i))
    (of-children T wf i h (λ a l s k. inr (a, l, value_output T a (operator_of (node_at T a)) s k)))))

module _ (T : Table) (wf : Wellformed T) where
  -- What holds of each step, and of a gate's output where it holds of the inputs, holds of each variable.
  pub variable_induction : (P : Var → Type 0) → ((j : ℕ) → j < length T.steps → P (step j))
      → Each (λ d. Reads P d.gate → P d.output) (gates T) → (v : Var) → Memᴰ v (variables T) → P v
  variable_induction P steps closes v m =
      ⊎_elim (start v) (λ r. subst P r.2 (outputs_have r.0 r.1)) (variable_cases T v m)
    where
      start : (v : Var) → IsStep T v → P v
      start v r = subst P r.2 (steps r.0 r.1)

      outputs_have : Each (λ d. P d.output) (gates T)
      outputs_have = follows_induction (IsStep T) P start (gates T) (gates_ordered T wf) closes

  -- the inputs of a gate are variables
  pub inputs_variables : Each (λ d. Reads (λ v. Memᴰ v (variables T)) d.gate) (gates T)
  inputs_variables d m l i = ⊎_elim
      (λ r. Memᴰ.cast (sym r.2) (step_variable T r.0 r.1))
      (output_variable T l.var)
      (follows_inputs (IsStep T) (gates T) (gates_ordered T wf) d m l i)
