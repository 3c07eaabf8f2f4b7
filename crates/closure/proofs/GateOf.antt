-- The gates of a table, one by one: a set that is closed under the clauses of the table is closed under those of each
-- gate, as those of an AND.
use Prim.Native.Nat.{ℕ, suc, ◌<◌}
use mathlib.Core.Path.{◌≡◌, refl, sym, ap, subst, ◌∙◌}
use mathlib.Core.Bool.{Bool}
use mathlib.Core.List.Memᴰ
use mathlib.Core.List.{[], ◌∷◌, map, Memᴰ}
use lib.ListN.{length}
use Rattle.sets.specs.Member.{member}
use Rattle.table.specs.declared.operator.Family.{Family}
use Rattle.table.specs.Table.{Table, state_at, step_at, node_at}
use Rattle.table.specs.Facts.{Wellformed}
use Rattle.ctl.specs.Rule.{
  Quantifier,
  every,
  some,
  Operator,
  constant,
  atom,
  negation,
  conjunction,
  disjunction,
  next,
  fixpoint,
  operator_of,
}
use Rattle.circuit.specs.Logic.{Literal, pos, neg, Gate, all, any}
use Rattle.circuit.specs.Variables.{Var, step, kept, node, edge, ahead, level, steps_out, value_of, value}
use Rattle.circuit.specs.Gates.{
  Defined,
  is,
  edge_gate,
  ahead_gate,
  constant_gate,
  edges,
  join_gates,
  level_gates,
  at_states,
  node_gates,
  kept_gates,
  gates,
}
use Rattle.circuit.specs.Clauses.{Clause, clauses}
use Rattle.circuit.proofs.Lists.{in_over}
use Rattle.circuit.proofs.Gate.{head_of, parts_of, gate_clauses_lem}
use Rattle.circuit.proofs.Clauses.{gate_in, gates_in}
use Rattle.closure.proofs.Forced.{ClauseClosed}
use Rattle.closure.proofs.GateRules.{ClosedAnd}

-- S is closed under the clauses of a gate with its output
abbrev pub ClosedGate : (Literal Var → Type 0) → Var → Gate Var → Type 0
ClosedGate S v G = ClosedAnd S (head_of v G) (parts_of G)

-- AND of two nodes, or OR
abbrev pub both_of : Quantifier → ℕ → ℕ → Operator
both_of every a b = conjunction a b
both_of some a b = disjunction a b

module _ (T : Table) where
  -- a gate that stands alone at each state
  alone_in : (f : ℕ → Defined) (s : ℕ) → s < length T.states → Memᴰ (f s) (at_states T (λ s. f s ∷ []))
  alone_in f s l = in_over (length T.states) (λ s. f s ∷ []) s l (Memᴰ.head refl)

  -- the gates of a node with this operator are those of the table
  node_in : (i : ℕ) → i < length T.nodes → (o : Operator) → operator_of (node_at T i) ≡ o → (d : Defined)
      → Memᴰ d (node_gates T i o)
      → Memᴰ d (gates T)
  unfolding gates
  node_in i h o e d m = Memᴰ.append_right (kept_gates T)
      (in_over (length T.nodes) (λ i. node_gates T i (operator_of (node_at T i))) i h
      (subst (λ o. Memᴰ d (node_gates T i o)) (sym e) m))

  -- and so are those of K
  kept_in : (s : ℕ) → s < length T.states → Memᴰ (is (kept s) (any (map (λ j. pos (step j)) (steps_out T s)))) (gates T)
  unfolding gates
  kept_in s l = Memᴰ.append_left _ (in_over (length T.states) _ s l (Memᴰ.head refl))

module _ (T : Table) (wf : Wellformed T) (S : Literal Var → Type 0) (closed : (C : Clause) → Memᴰ C (clauses T)
    → ClauseClosed S C) where
  -- each gate of the table
  gate_of : (d : Defined) → Memᴰ d (gates T) → ClosedGate S d.output d.gate
  gate_of d m = record { closed = λ C k. closed C (gates_in T C (gate_in T d m C (rw gate_clauses_lem k))) }

  pub kept_gate : (s : ℕ) → s < length T.states → ClosedGate S (kept s) (any (map (λ j. pos (step j)) (steps_out T s)))
  kept_gate s l = gate_of _ (kept_in T s l)

  module _ (i : ℕ) (h : i < length T.nodes) where
    -- X of a node without levels is the output of its gate
    plain_gate : (o : Operator) (e : operator_of (node_at T i) ≡ o) (s : ℕ) (G : Gate Var) → value_of T o i s ≡ node i s
        → Memᴰ (is (node i s) G) (node_gates T i o) → ClosedGate S (value T i s) G
    plain_gate o e s G v m =
        subst (λ (x : Var). ClosedGate S x G) (sym v ∙ sym (ap (λ (o : Operator). value_of T o i s) e))
        (gate_of _ (node_in T i h o e _ m))

    pub constant_gate_lem : (b : Bool) → operator_of (node_at T i) ≡ constant b → (s : ℕ) → s < length T.states
        → ClosedGate S (value T i s) (constant_gate b)
    unfolding node_gates
    constant_gate_lem b e s l = plain_gate _ e s _ refl (alone_in T (λ s. is (node i s) (constant_gate b)) s l)

    pub atom_gate : (p : ℕ) → operator_of (node_at T i) ≡ atom p → (s : ℕ) → s < length T.states
        → ClosedGate S (value T i s) (constant_gate (member (state_at T s).label p))
    unfolding node_gates
    atom_gate p e s l =
        plain_gate _ e s _ refl (alone_in T (λ s. is (node i s) (constant_gate (member (state_at T s).label p))) s l)

    pub negation_gate : (a : ℕ) → operator_of (node_at T i) ≡ negation a → (s : ℕ) → s < length T.states
        → ClosedGate S (value T i s) (all (neg (value T a s) ∷ []))
    unfolding node_gates
    negation_gate a e s l = plain_gate _ e s _ refl (alone_in T (λ s. is (node i s) (all (neg (value T a s) ∷ []))) s l)

    -- AND for a conjunction, OR for a disjunction
    pub both_gate : (q : Quantifier) (a b : ℕ) → operator_of (node_at T i) ≡ both_of q a b → (s : ℕ)
        → s < length T.states
        → ClosedGate S (value T i s) (ahead_gate q (pos (value T a s) ∷ pos (value T b s) ∷ []))
    unfolding node_gates
    both_gate every a b e s l =
        plain_gate _ e s _ refl (alone_in T (λ s. is (node i s) (all (pos (value T a s) ∷ pos (value T b s) ∷ []))) s l)
    both_gate some a b e s l =
        plain_gate _ e s _ refl (alone_in T (λ s. is (node i s) (any (pos (value T a s) ∷ pos (value T b s) ∷ []))) s l)

    -- the step gates of a state, and the gate over them
    pub next_edge_gate : (q : Quantifier) (a : ℕ) → operator_of (node_at T i) ≡ next q a → (s : ℕ) → s < length T.states
        → (j : ℕ) → Memᴰ j (steps_out T s) → ClosedGate S (edge i 0 j) (edge_gate q j (value T a (step_at T j).to))
    unfolding node_gates
    next_edge_gate q a e s l j m = gate_of _ (node_in T i h _ e _ (in_over (length T.states) _ s l
        (Memᴰ.append_left _ (Memᴰ.map (λ j. is (edge i 0 j) (edge_gate q j (value T a (step_at T j).to))) m))))

    pub next_gate : (q : Quantifier) (a : ℕ) → operator_of (node_at T i) ≡ next q a → (s : ℕ) → s < length T.states
        → ClosedGate S (value T i s) (ahead_gate q (map (λ j. pos (edge i 0 j)) (steps_out T s)))
    unfolding node_gates
    next_gate q a e s l = plain_gate _ e s _ refl (in_over (length T.states) _ s l
        (Memᴰ.append_right (edges T q i 0 (value T a) s) (Memᴰ.head refl)))

    -- level 0, and the gates of a level above it
    pub first_gate : (fam : Family) (q : Quantifier) (a b : ℕ) → operator_of (node_at T i) ≡ fixpoint fam q a b
        → (s : ℕ) → s < length T.states
        → ClosedGate S (level i 0 s) (all (pos (value T b s) ∷ []))
    unfolding node_gates
    first_gate fam q a b e s l = gate_of _ (node_in T i h _ e _ (Memᴰ.append_left _
        (alone_in T (λ s. is (level i 0 s) (all (pos (value T b s) ∷ []))) s l)))

    module _ (fam : Family) (q : Quantifier) (a b : ℕ) (e : operator_of (node_at T i) ≡ fixpoint fam q a b) (m : ℕ)
        (few : m < length T.states)
        (s : ℕ) (l : s < length T.states) where
      -- the gates of level m + 1 at state s
      level_of_lem : (d : Defined) → Memᴰ d (level_gates T fam q i a b m s) → ClosedGate S d.output d.gate
      unfolding node_gates
      level_of_lem d k = gate_of d
          (node_in T i h _ e d (Memᴰ.append_right
          (at_states T (λ s. is (level i 0 s) (all (pos (value T b s) ∷ [])) ∷ []))
          (in_over (length T.states) _ m few (in_over (length T.states) (level_gates T fam q i a b m) s l k))))

      pub level_edge_gate : (j : ℕ) → Memᴰ j (steps_out T s)
          → ClosedGate S (edge i (suc m) j) (edge_gate q j (level i m (step_at T j).to))
      level_edge_gate j k = level_of_lem _
          (Memᴰ.append_left _ (Memᴰ.map (λ j. is (edge i (suc m) j) (edge_gate q j (level i m (step_at T j).to))) k))

      pub ahead_gate_lem : ClosedGate S (ahead i (suc m) s)
          (ahead_gate q (map (λ j. pos (edge i (suc m) j)) (steps_out T s)))
      ahead_gate_lem = level_of_lem _ (Memᴰ.append_right (edges T q i (suc m) (level i m) s) (Memᴰ.head refl))

      -- G and the level
      pub join_gate : (d : Defined) → Memᴰ d (join_gates T fam i a b (suc m) s) → ClosedGate S d.output d.gate
      join_gate d k = level_of_lem d (Memᴰ.append_right (edges T q i (suc m) (level i m) s) (Memᴰ.tail k))
