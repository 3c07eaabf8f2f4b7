-- Every literal of a table's clauses is over a variable of the table, and no clause is empty.
use Prim.Native.Nat.{ℕ, ◌<◌}
use native.Mathlib.Omega.{arith}
use mathlib.Core.Path.{refl}
use mathlib.Core.List.Memᴰ
use mathlib.Core.List.{Memᴰ}
use lib.ListN.{length}
use Rattle.table.specs.Table.{Table, node_at}
use Rattle.table.specs.Facts.{Wellformed}
use Rattle.ctl.specs.Rule.{root_index, operator_of}
use Rattle.circuit.specs.Logic.{Literal, pos, opposite, Gate, all, any, gate_clauses}
use Rattle.circuit.specs.Variables.{Var, kept, value, variables}
use Rattle.circuit.specs.Gates.{node_gates, kept_gates, gates}
use Rattle.circuit.specs.Clauses.{Clause, initials, clauses}
use Rattle.circuit.proofs.Lists.{Each, each_more, each_one, each_map, in_over}
use Rattle.circuit.proofs.Gate.{head_of, parts_of, gate_clauses_lem, Reads, reads_parts, each_and}
use Rattle.circuit.proofs.Outputs.{step_variable, output_variable}
use Rattle.circuit.proofs.Order.{outputs_up, one_output, value_output, inputs_variables}
use Rattle.circuit.proofs.Clauses.{in_initials, each_clause, each_demand}

-- ---- the variables of one gate's clauses

-- the literals of the clause are over variables in P
abbrev Over : (Var → Type 0) → Clause → Type 0
Over P = Each (λ l. P l.var)

over_head : (P : Var → Type 0) (g : Var) (G : Gate Var) → P g → P (head_of g G).var
over_head P g (all ls) h = h
over_head P g (any ls) h = h

-- the clauses of a gate are over its output and its inputs
pub gate_over : (P : Var → Type 0) (g : Var) (G : Gate Var) → P g → Reads P G → Each (Over P) (gate_clauses g G)
gate_over P g G h reads = rw (gate_clauses_lem g G) (each_and (head_of g G) (parts_of G) (Over P)
    (λ l m. each_more _ _ _ (over_head P g G h) (each_one _ l (reads_parts P G reads l m)))
    (each_more _ _ _ (over_head P g G h) (each_map _ opposite (parts_of G) (reads_parts P G reads))))

-- ---- the variables of a table's clauses

module _ (T : Table) where
  -- K of a state is a variable
  pub kept_variable : (s : ℕ) → s < length T.states → Memᴰ (kept s) (variables T)
  unfolding gates
  kept_variable s h = output_variable T (kept s)
      (outputs_up (kept_gates T) (gates T) (λ d. Memᴰ.append_left _) (one_output T kept _ s h))

  -- X of a node at a state is a variable
  pub value_variable : (i : ℕ) → i < length T.nodes → (s : ℕ) → s < length T.states → Memᴰ (value T i s) (variables T)
  unfolding gates
  value_variable i h s l =
      output_variable T (value T i s) (outputs_up (node_gates T i (operator_of (node_at T i))) (gates T)
      (λ d m. Memᴰ.append_right (kept_gates T)
      (in_over (length T.nodes) (λ i. node_gates T i (operator_of (node_at T i))) i h m))
      (value_output T i (operator_of (node_at T i)) s l))

module _ (T : Table) (wf : Wellformed T) where
  -- Every literal of every clause is over a variable of the table.
  pub clause_variables : (C : Clause) → Memᴰ C (clauses T) → (l : Literal Var) → Memᴰ l C → Memᴰ l.var (variables T)
  clause_variables = each_clause T (Over (λ v. Memᴰ v (variables T)))
      (λ d m. gate_over _ d.output d.gate (output_variable T d.output (Memᴰ.map (λ d. d.output) m))
      (inputs_variables T wf d m))
      (each_demand T _
      (λ j h. each_more _ _ _ (step_variable T j h) (each_one _ _ (kept_variable T _ (wf.to_state j h))))
      (each_map _ _ (initials T) (λ s m. kept_variable T s ((in_initials T s).0 m).0))
      (λ s i. each_more _ _ _ (kept_variable T s i.0)
      (each_one _ _ (value_variable T (root_index T) (omega (arith, wf.some_node)) s i.0))))

  -- every clause has a literal
  pub clause_literal : (C : Clause) → Memᴰ C (clauses T) → (l : Literal Var) × Memᴰ l C
  clause_literal = each_clause T (λ C. (l : Literal Var) × Memᴰ l C)
      (λ d m. rw (gate_clauses_lem d.output d.gate)
      (each_and (head_of d.output d.gate) (parts_of d.gate) _ (λ l i. (_, Memᴰ.head refl)) (_, Memᴰ.head refl)))
      (each_demand T _
      (λ j h. (_, Memᴰ.head refl))
      (let i = wf.some_initial in (pos (kept i.0), Memᴰ.map (λ s. pos (kept s)) ((in_initials T i.0).1 (i.1, i.2))))
      (λ s i. (_, Memᴰ.head refl)))
