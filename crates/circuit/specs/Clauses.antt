-- The clauses of a table: those of its gates, in their order, and then the demands. Specification, "Net".
use Rattle.std.specs.Prelude.{ℕ, List, [], ◌∷◌, ◌++◌, map, length}
use Rattle.table.specs.Table.{Table, step_at, initial_at}
use Rattle.ctl.specs.Rule.{root_index}
use Rattle.circuit.specs.Logic.{Literal, pos, neg, gate_clauses}
use Rattle.circuit.specs.Variables.{Var, step, kept, concat, value}
use Rattle.circuit.specs.Gates.{gates}
use Rattle.ctl.specs.Range.{below, select}

abbrev pub Clause : Type 0
Clause = List (Literal Var)

module _ (T : Table) where
  -- the initial states, ascending
  abbrev pub initials : List ℕ
  initials = select (initial_at T) (below (length T.states))

  -- (not E, K(t)) per step into t; one clause of K(s) over all initial s; (not K(s), X(root, s)) per initial s
  unfoldable pub demands : List Clause
  demands =
      map (λ j. neg (step j) ∷ pos (kept (step_at T j).to) ∷ []) (below (length T.steps))
      ++ (map (λ s. pos (kept s)) initials ∷ [])
      ++ map (λ s. neg (kept s) ∷ pos (value T (root_index T) s) ∷ []) initials

  -- the clauses of the gates, in their order
  abbrev pub gates_clauses : List Clause
  gates_clauses = concat (map (λ d. gate_clauses d.output d.gate) (gates T))

  unfoldable pub clauses : List Clause
  clauses = gates_clauses ++ demands
