-- What may be chosen, and its closure in a table.
use Rattle.std.specs.Prelude.{ℕ, List, map}
use Rattle.table.specs.Table.{Table}
use Rattle.circuit.specs.Logic.{Literal}
use Rattle.circuit.specs.Variables.{Var, step, variable_count, literal}
use Rattle.closure.specs.Computed.{Progress, closure}
use Rattle.closure.specs.Numbered.{numbered_clauses}
use Rattle.closure.specs.Given.{VariablesBelow, Consistent}

-- the literals may be chosen: they are of steps, and no two of them contradict each other
pub record Fine (e : ℕ) (P : List (Literal ℕ)) : Type 0 where
  pub consistent : Consistent P
  pub within : VariablesBelow e P

abbrev pub closure_of : Table → List (Literal ℕ) → Progress
closure_of T = closure (variable_count T) (numbered_clauses T)

-- step literals, by number and by variable
abbrev pub step_literals : List (Literal ℕ) → List (Literal Var)
step_literals P = map (λ l. literal l.sign (step l.var)) P
