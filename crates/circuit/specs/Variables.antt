-- The variables of a table's circuit, in order: the steps, K by state, then node by node, level by level, state by
-- state; for one state its step gates, then N, G where there is one, and the level or X.
use Rattle.std.specs.Prelude.{ℕ, suc, Bool, ◌+◌, ◌*◌, cond, List, [], ◌∷◌, ◌++◌, map, length, eqb}
use Rattle.table.specs.declared.record.Node.{Node}
use Rattle.table.specs.declared.record.Step.{Step}
use Rattle.table.specs.declared.operator.Family.{Family}
use Rattle.table.specs.declared.operator.Family.TheVariants.{Release, Until, Eventually, Always}
use Rattle.table.specs.Table.{Table, node_at}
use Rattle.ctl.specs.Rule.{Operator, constant, atom, negation, conjunction, disjunction, next, fixpoint, operator_of}
use Rattle.ctl.specs.Range.{below}
use Rattle.circuit.specs.Logic.{Literal}

-- Constructors tell variables apart, so no numbering has to be shown one to one; a variable's number is its place in
-- `variables`.
pub data Var : Type 0 where
  -- E: step j is kept
  step : ℕ → Var
  -- K: state s is kept
  kept : ℕ → Var
  -- X of node i at state s, for a node without levels
  node : ℕ → ℕ → Var
  -- the gate of step j, for node i at level m (m = 0 for a node without levels)
  edge : ℕ → ℕ → ℕ → Var
  -- N, G (the OR of a and N for V, their AND for U) and the level, for node i at level m and state s
  ahead : ℕ → ℕ → ℕ → Var
  inner : ℕ → ℕ → ℕ → Var
  level : ℕ → ℕ → ℕ → Var

-- the literal of a variable with this sign
abbrev pub literal : Bool → Var → Literal Var
literal sign v = record { sign = sign; var = v }

unfoldable pub concat : {A : Type 0} → List (List A) → List A
concat [] = []
concat (xs ∷ xss) = xs ++ concat xss

-- the numbers of the steps out of s, ascending; j is the number of the first of the steps given
unfoldable pub out_of : ℕ → List Step → ℕ → List ℕ
out_of j [] s = []
out_of j (x ∷ xs) s = cond (eqb x.from s) (j ∷ out_of (suc j) xs s) (out_of (suc j) xs s)

abbrev pub steps_out : Table → ℕ → List ℕ
steps_out T s = out_of 0 T.steps s

-- N, G and the level at one state; eventually and always have no G
abbrev pub own_variables : Family → ℕ → ℕ → ℕ → List Var
own_variables Release i m s = ahead i m s ∷ inner i m s ∷ level i m s ∷ []
own_variables Until i m s = ahead i m s ∷ inner i m s ∷ level i m s ∷ []
own_variables Eventually i m s = ahead i m s ∷ level i m s ∷ []
own_variables Always i m s = ahead i m s ∷ level i m s ∷ []

-- how many they are
abbrev pub own_count : Family → ℕ
own_count Release = 3
own_count Until = 3
own_count Eventually = 2
own_count Always = 2

module _ (T : Table) where
  -- X of node i, whose operator is given, at state s: level n where the node has levels
  abbrev pub value_of : Operator → ℕ → ℕ → Var
  value_of (constant b) i s = node i s
  value_of (atom p) i s = node i s
  value_of (negation a) i s = node i s
  value_of (conjunction a b) i s = node i s
  value_of (disjunction a b) i s = node i s
  value_of (next q a) i s = node i s
  value_of (fixpoint f q a b) i s = level i (length T.states) s

  abbrev pub value : ℕ → ℕ → Var
  value i s = value_of (operator_of (node_at T i)) i s

  -- the variables of one level above 0
  abbrev pub level_variables : Family → ℕ → ℕ → List Var
  level_variables f i m =
      concat (map (λ s. map (edge i m) (steps_out T s) ++ own_variables f i m s) (below (length T.states)))

  unfoldable pub node_variables : ℕ → Operator → List Var
  node_variables i (constant b) = map (node i) (below (length T.states))
  node_variables i (atom p) = map (node i) (below (length T.states))
  node_variables i (negation a) = map (node i) (below (length T.states))
  node_variables i (conjunction a b) = map (node i) (below (length T.states))
  node_variables i (disjunction a b) = map (node i) (below (length T.states))
  node_variables i (next q a) =
      concat (map (λ s. map (edge i 0) (steps_out T s) ++ (node i s ∷ [])) (below (length T.states)))
  node_variables i (fixpoint f q a b) =
      map (level i 0) (below (length T.states))
      ++ concat (map (λ m. level_variables f i (suc m)) (below (length T.states)))

  unfoldable pub variables : List Var
  variables =
      map step (below (length T.steps))
      ++ map kept (below (length T.states))
      ++ concat (map (λ i. node_variables i (operator_of (node_at T i))) (below (length T.nodes)))

  -- V: how many variables there are
  abbrev pub variable_count : ℕ
  variable_count = length variables

-- V by its formula (Specification, "Net"): e + n and, for each node, n for kinds 0 to 5, e + n for 6 and 7, n + n (e
-- + 3 n) for 8 to 11, n + n (e + 2 n) for 12 to 15
abbrev pub cost_of : ℕ → ℕ → Operator → ℕ
cost_of n e (constant b) = n
cost_of n e (atom p) = n
cost_of n e (negation a) = n
cost_of n e (conjunction a b) = n
cost_of n e (disjunction a b) = n
cost_of n e (next q a) = e + n
cost_of n e (fixpoint f q a b) = n + n * (e + own_count f * n)

unfoldable pub costs : ℕ → ℕ → List Node → ℕ
costs n e [] = 0
costs n e (x ∷ xs) = cost_of n e (operator_of x) + costs n e xs

unfoldable pub variable_formula : Table → ℕ
variable_formula T = length T.steps + length T.states + costs (length T.states) (length T.steps) T.nodes
