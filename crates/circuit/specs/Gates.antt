-- The gate of each variable that is not a step, in the order of the variables. Specification, "Net".
use Rattle.std.specs.Prelude.{ℕ, suc, Bool, true, false, List, [], ◌∷◌, ◌++◌, map, length}
use Rattle.sets.specs.Member.{member}
use Rattle.table.specs.declared.operator.Family.{Family}
use Rattle.table.specs.declared.operator.Family.TheVariants.{Release, Until, Eventually, Always}
use Rattle.table.specs.Table.{Table, state_at, step_at, node_at}
use Rattle.ctl.specs.Rule.{
  Quantifier,
  every,
  some,
  Operator,
  constant,
  atom,
  negation,
  conjunction,
  disjunction,
  next,
  fixpoint,
  operator_of,
}
use Rattle.circuit.specs.Logic.{Literal, pos, neg, Gate, all, any}
use Rattle.circuit.specs.Variables.{Var, step, kept, node, edge, ahead, inner, level, concat, steps_out, value}
use Rattle.ctl.specs.Range.{below}

-- a variable with its gate
pub record Defined : Type 0 where
  pub output : Var
  pub gate : Gate Var

abbrev pub is : Var → Gate Var → Defined
is v g = record { output = v; gate = g }

-- The gate of step j over what holds at its end, and N over the gates of the steps out of a state: for A, an OR of
-- not E and the end's literal, and their AND; for E, an AND of E and it, and their OR.
abbrev pub edge_gate : Quantifier → ℕ → Var → Gate Var
edge_gate every j end = any (neg (step j) ∷ pos end ∷ [])
edge_gate some j end = all (pos (step j) ∷ pos end ∷ [])

abbrev pub ahead_gate : Quantifier → List (Literal Var) → Gate Var
ahead_gate every ls = all ls
ahead_gate some ls = any ls

-- an empty AND is true, an empty OR false
abbrev pub constant_gate : Bool → Gate Var
constant_gate true = all []
constant_gate false = any []

module _ (T : Table) where
  -- the step gates of node i at level m out of state s, over `end` at each step's end
  abbrev pub edges : Quantifier → ℕ → ℕ → (ℕ → Var) → ℕ → List Defined
  edges q i m end s = map (λ j. is (edge i m j) (edge_gate q j (end (step_at T j).to))) (steps_out T s)

  -- G and the level at level m and state s, over N: for V, the OR of a and N, and the AND of b and G; for U, AND and
  -- OR exchanged; for eventually and always the level alone, the OR or the AND of b and N
  abbrev pub join_gates : Family → ℕ → ℕ → ℕ → ℕ → ℕ → List Defined
  join_gates Release i a b m s =
      is (inner i m s) (any (pos (value T a s) ∷ pos (ahead i m s) ∷ []))
      ∷ is (level i m s) (all (pos (value T b s) ∷ pos (inner i m s) ∷ []))
      ∷ []
  join_gates Until i a b m s =
      is (inner i m s) (all (pos (value T a s) ∷ pos (ahead i m s) ∷ []))
      ∷ is (level i m s) (any (pos (value T b s) ∷ pos (inner i m s) ∷ []))
      ∷ []
  join_gates Eventually i a b m s = is (level i m s) (any (pos (value T b s) ∷ pos (ahead i m s) ∷ [])) ∷ []
  join_gates Always i a b m s = is (level i m s) (all (pos (value T b s) ∷ pos (ahead i m s) ∷ [])) ∷ []

  -- level m + 1 at state s, over level m
  abbrev pub level_gates : Family → Quantifier → ℕ → ℕ → ℕ → ℕ → ℕ → List Defined
  level_gates f q i a b m s =
      edges q i (suc m) (level i m) s
      ++ (is (ahead i (suc m) s) (ahead_gate q (map (λ j. pos (edge i (suc m) j)) (steps_out T s)))
      ∷ join_gates f i a b (suc m) s)

  abbrev pub at_states : (ℕ → List Defined) → List Defined
  at_states f = concat (map f (below (length T.states)))

  unfoldable pub node_gates : ℕ → Operator → List Defined
  node_gates i (constant b) = at_states (λ s. is (node i s) (constant_gate b) ∷ [])
  node_gates i (atom p) = at_states (λ s. is (node i s) (constant_gate (member (state_at T s).label p)) ∷ [])
  node_gates i (negation a) = at_states (λ s. is (node i s) (all (neg (value T a s) ∷ [])) ∷ [])
  node_gates i (conjunction a b) =
      at_states (λ s. is (node i s) (all (pos (value T a s) ∷ pos (value T b s) ∷ [])) ∷ [])
  node_gates i (disjunction a b) =
      at_states (λ s. is (node i s) (any (pos (value T a s) ∷ pos (value T b s) ∷ [])) ∷ [])
  node_gates i (next q a) = at_states
      (λ s. edges q i 0 (value T a) s
      ++ (is (node i s) (ahead_gate q (map (λ j. pos (edge i 0 j)) (steps_out T s))) ∷ []))
  node_gates i (fixpoint f q a b) =
      at_states (λ s. is (level i 0 s) (all (pos (value T b s) ∷ [])) ∷ [])
      ++ concat (map (λ m. at_states (level_gates f q i a b m)) (below (length T.states)))

  -- K(s): OR of E over the steps out of s
  abbrev pub kept_gates : List Defined
  kept_gates = at_states (λ s. is (kept s) (any (map (λ j. pos (step j)) (steps_out T s))) ∷ [])

  unfoldable pub gates : List Defined
  gates = kept_gates ++ concat (map (λ i. node_gates i (operator_of (node_at T i))) (below (length T.nodes)))
