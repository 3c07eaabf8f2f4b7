-- The clauses of a table, one by one: those of each gate, and the three kinds of demands.
use Prim.Native.Nat.{ℕ, ◌<◌}
use mathlib.Core.Path.{refl}
use mathlib.Core.Logic.Iff
use mathlib.Core.Logic.{◌↔◌}
use mathlib.Core.List.Memᴰ
use mathlib.Core.List.{List, [], ◌∷◌, ◌++◌, map, Memᴰ}
use borrow.Author.Tests.{eqb-true, eq-eqb}
use lib.ListN.{length}
use Rattle.table.specs.Table.{Table, step_at}
use Rattle.ctl.specs.Rule.{root_index}
use Rattle.ctl.specs.Kept.{Initial}
use Rattle.circuit.specs.Logic.{pos, neg, gate_clauses}
use Rattle.circuit.specs.Variables.{step, kept, value}
use Rattle.circuit.specs.Gates.{Defined, gates}
use Rattle.circuit.specs.Clauses.{Clause, initials, demands, gates_clauses, clauses}
use Rattle.circuit.proofs.Lists.{Each, each_one, each_append, each_map, each_concat, in_concat}
use Rattle.ctl.proofs.Select.{in_below, in_select}
use Rattle.ctl.specs.Range.{below}

-- the clauses of a gate with its output
abbrev pub clauses_of : Defined → List Clause
clauses_of d = gate_clauses d.output d.gate

-- the demand of a step: not E, or K of its end
abbrev pub step_demand : Table → ℕ → Clause
step_demand T j = neg (step j) ∷ pos (kept (step_at T j).to) ∷ []

-- the demand of the initial states: K of one of them
abbrev pub start_demand : Table → Clause
start_demand T = map (λ s. pos (kept s)) (initials T)

-- the demand of an initial state: not K, or X of the root
abbrev pub root_demand : Table → ℕ → Clause
root_demand T s = neg (kept s) ∷ pos (value T (root_index T) s) ∷ []

module _ (T : Table) where
  -- the initial states are those that are listed
  pub in_initials : (s : ℕ) → Memᴰ s (initials T) ↔ Initial T s
  in_initials s = Iff.trans (in_select _ (below (length T.states)) s)
      (Iff.and (in_below (length T.states) s) (eqb-true _ 1, eq-eqb _ 1))

  -- what the clauses of the gates and the demands have, each clause has
  pub each_clause : (P : Clause → Type 0) → Each (λ d. Each P (clauses_of d)) (gates T) → Each P (demands T)
      → Each P (clauses T)
  unfolding clauses
  each_clause P gs ds =
      each_append P (gates_clauses T) (demands T) (each_concat P _ (each_map (Each P) clauses_of (gates T) gs)) ds

  -- what each kind of demand has, each demand has
  pub each_demand : (P : Clause → Type 0) → ((j : ℕ) → j < length T.steps → P (step_demand T j)) → P (start_demand T)
      → ((s : ℕ) → Initial T s → P (root_demand T s)) → Each P (demands T)
  unfolding demands
  each_demand P steps start roots =
      each_append P (map (step_demand T) (below (length T.steps)) ++ (start_demand T ∷ [])) _
      (each_append P (map (step_demand T) (below (length T.steps))) _
      (each_map P (step_demand T) (below (length T.steps)) (λ j m. steps j ((in_below (length T.steps) j).0 m)))
      (each_one P (start_demand T) start))
      (each_map P (root_demand T) (initials T) (λ s m. roots s ((in_initials s).0 m)))

  -- a clause of a gate is one of those of the gates
  pub gate_in : (d : Defined) → Memᴰ d (gates T) → (C : Clause) → Memᴰ C (clauses_of d) → Memᴰ C (gates_clauses T)
  gate_in d m C i = in_concat (map clauses_of (gates T)) i (Memᴰ.map clauses_of m)

  -- which are clauses of the table
  pub gates_in : (C : Clause) → Memᴰ C (gates_clauses T) → Memᴰ C (clauses T)
  unfolding clauses
  gates_in C = Memᴰ.append_left (demands T)

  -- so is the demand of a step
  pub step_in : (j : ℕ) → j < length T.steps → Memᴰ (step_demand T j) (clauses T)
  unfolding clauses demands
  step_in j h = Memᴰ.append_right (gates_clauses T) (Memᴰ.append_left _ (Memᴰ.append_left _
      (Memᴰ.map (step_demand T) ((in_below (length T.steps) j).1 h))))

  -- that of the initial states
  pub start_in : Memᴰ (start_demand T) (clauses T)
  unfolding clauses demands
  start_in = Memᴰ.append_right (gates_clauses T) (Memᴰ.append_left _
      (Memᴰ.append_right (map (step_demand T) (below (length T.steps))) (Memᴰ.head refl)))

  -- and that of an initial state
  pub root_in : (s : ℕ) → Initial T s → Memᴰ (root_demand T s) (clauses T)
  unfolding clauses demands
  root_in s i = Memᴰ.append_right (gates_clauses T)
      (Memᴰ.append_right (map (step_demand T) (below (length T.steps)) ++ (start_demand T ∷ []))
      (Memᴰ.map (root_demand T) ((in_initials s).1 i)))
