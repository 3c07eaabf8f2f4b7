-- What the circuit of a table promises: its models are the repairs, its variables can be told apart by their numbers,
-- and four tallies of the nodes tell how many they are.
use Rattle.std.specs.Prelude.{ℕ, ◌+◌, ◌≤◌, ◌<◌, ◌≡◌, Bool, List, length, get_or, eqb}
use mathlib.Core.List.{Memᴰ}
use Rattle.table.specs.Table.{Table}
use Rattle.table.specs.Facts.{Wellformed}
use Rattle.ctl.specs.Kept.{IsList, Repair}
use Rattle.circuit.specs.Logic.{Satisfies}
use Rattle.circuit.specs.Variables.{Var, step, variables, variable_count, variable_formula}
use Rattle.circuit.specs.declared.tallies.Tallies.{Tallies}
use Rattle.circuit.specs.Tally.{tallied}
use Rattle.circuit.specs.Clauses.{gates_clauses, clauses}

-- α says of each step whether the list keeps it
abbrev pub Agrees : Table → (Var → Bool) → List ℕ → Type 0
Agrees T α list = (j : ℕ) → j < length T.steps → α (step j) ≡ eqb (get_or list j 0) 1

pub record ModelsAreRepairs (T : Table) : Type 0 where
  -- each list extends to an assignment that makes the clauses of the gates true,
  pub extends : (list : List ℕ) → (α : Var → Bool) × Agrees T α list × Satisfies α (gates_clauses T)
  -- and to just one, on the variables of the table
  pub unique : (list : List ℕ) (α β : Var → Bool) → Agrees T α list → Agrees T β list
      → Satisfies α (gates_clauses T) → Satisfies β (gates_clauses T) → (v : Var) → Memᴰ v (variables T) → α v ≡ β v
  -- a list whose assignment makes all clauses true is a repair,
  pub model_is_repair : (list : List ℕ) → IsList T list → (α : Var → Bool) → Agrees T α list
      → Satisfies α (clauses T) → Repair T list
  -- and each repair has such an assignment
  pub repair_is_model : (list : List ℕ) → Repair T list
      → (α : Var → Bool) × Agrees T α list × Satisfies α (clauses T)

abbrev pub ModelsAreTheRepairs : Type 0
ModelsAreTheRepairs = (T : Table) → Wellformed T → ModelsAreRepairs T

pub record VariablesAreNumbered (T : Table) : Type 0 where
  -- no variable has two places, and step j is variable j
  pub distinct : (i j : ℕ) → i < j → j < variable_count T
      → ¬ (get_or (variables T) i (step 0) ≡ get_or (variables T) j (step 0))
  pub step_first : (j : ℕ) → j < length T.steps → get_or (variables T) j (step 0) ≡ step j
  -- how many there are is the formula's value, and that is at most 223,392
  pub counted : variable_count T ≡ variable_formula T
  pub few : variable_count T ≤ 223392

abbrev pub VariablesAreTheNumbers : Type 0
VariablesAreTheNumbers = (T : Table) → Wellformed T → VariablesAreNumbered T

pub record TalliesAreRight (T : Table) (t : Tallies) : Type 0 where
  -- each node is in one tally,
  pub all_nodes : t.plain + t.next + t.paired + t.single ≡ length T.nodes
  -- and e + n and each tally times its cost add up to V
  pub add_up : tallied (length T.states) (length T.steps) t ≡ variable_count T
