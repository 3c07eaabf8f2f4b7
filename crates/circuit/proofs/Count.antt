-- How many variables a table has: as many as the formula says, and never more than 223392.
use Prim.Native.Nat.{ℕ, zero, suc, ◌+◌, ◌*◌, ◌≤◌}
use native.Mathlib.Nat.{mul-one, mul_comm, mul-le-mul, not-suc-le-zero}
use native.Mathlib.Omega.{arith}
use mathlib.Core.Path.{◌≡◌, refl, sym, ap, ap₂, ◌∙◌}
use mathlib.Core.Bool.{Bool, true, false, cond}
use mathlib.Core.List.{List, [], ◌∷◌, ◌++◌, map}
use lib.Dec.{eqb}
use lib.ListN.{length, get_or, length-append, length-map}
use Rattle.table.specs.declared.record.Node.{Node}
use Rattle.table.specs.declared.record.Step.{Step}
use Rattle.table.specs.declared.operator.Family.{Family}
use Rattle.table.specs.declared.operator.Family.TheVariants.{Release, Until, Eventually, Always}
use Rattle.table.specs.Table.{Table, zero_step, zero_node, step_at, node_at}
use Rattle.table.specs.Facts.{Wellformed}
use Rattle.ctl.specs.Rule.{Operator, constant, atom, negation, conjunction, disjunction, next, fixpoint, operator_of}
use Rattle.ctl.specs.Range.{tabulate, below}
use Rattle.ctl.specs.Price.{sum_below}
use Rattle.ctl.proofs.Sums.{sum_cong, sum_low, sum_add, sum_constant, sum_grouped}
use Rattle.ctl.proofs.Tabulate.{length_tabulate}
use Rattle.ctl.proofs.BottomUp.{Below, children_below}
use Rattle.circuit.specs.Variables.{
  Var,
  step,
  kept,
  node,
  edge,
  level,
  concat,
  out_of,
  steps_out,
  own_variables,
  own_count,
  node_variables,
  variables,
  variable_count,
  cost_of,
  costs,
  variable_formula,
}

-- ---- the sizes of lists

-- an element for each number
one_each : {A : Type 0} (n : ℕ) (f : ℕ → A) → length (map f (below n)) ≡ n
one_each n f = length-map (below n) f ∙ length_tabulate n (λ k. k)

-- the sizes of the parts add up to the size of the whole
length-concat : {A : Type 0} (n : ℕ) (f : ℕ → List A) (g : ℕ → ℕ)
    → length (concat (map f (tabulate n g))) ≡ sum_below n (λ k. length (f (g k)))
unfolding sum_below tabulate concat
length-concat zero f g = refl
length-concat (suc n) f g =
    length-append (f (g zero)) _
    ∙ ap (λ (k : ℕ). length (f (g zero)) + k) (length-concat n f (λ k. g (suc k)))
    ∙ sym (sum_low n (λ k. length (f (g k))))

-- ---- the steps out of the states

-- as many as are from the state
out_size : (j : ℕ) (x : Step) (xs : List Step) (s : ℕ)
    → length (out_of j (x ∷ xs) s) ≡ cond (eqb x.from s) 1 0 + length (out_of (suc j) xs s)
unfolding out_of
out_size j x xs s = go (eqb x.from s)
  where
    go : (b : Bool) → length (cond b (j ∷ out_of (suc j) xs s) (out_of (suc j) xs s))
        ≡ cond b 1 0 + length (out_of (suc j) xs s)
    go true = omega arith
    go false = omega arith

out_count : (j : ℕ) (xs : List Step) (s : ℕ)
    → length (out_of j xs s) ≡ sum_below (length xs) (λ k. cond (eqb (get_or xs k zero_step).from s) 1 0)
unfolding out_of sum_below
out_count j [] s = refl
out_count j (x ∷ xs) s =
    out_size j x xs s
    ∙ ap (λ (k : ℕ). cond (eqb x.from s) 1 0 + k) (out_count (suc j) xs s)
    ∙ sym (sum_low (length xs) (λ k. cond (eqb (get_or (x ∷ xs) k zero_step).from s) 1 0))

module _ (T : Table) (wf : Wellformed T) where
  -- the steps out of the states are all steps, each out of one
  steps_out_count : sum_below (length T.states) (λ s. length (steps_out T s)) ≡ length T.steps
  steps_out_count =
      sum_cong (length T.states) _ _ (λ s h. out_count 0 T.steps s)
      ∙ sum_grouped (length T.states) (length T.steps) (λ j. (step_at T j).from) (λ j. 1) wf.from_state
      ∙ sum_constant (length T.steps) 1
      ∙ mul-one (length T.steps)

  -- a variable for each step, and c for each state
  level_count : (edges : ℕ → Var) (c : ℕ) (rest : ℕ → List Var) → ((s : ℕ) → length (rest s) ≡ c)
      → length (concat (map (λ s. map edges (steps_out T s) ++ rest s) (below (length T.states))))
      ≡ length T.steps + length T.states * c
  level_count edges c rest size =
      length-concat (length T.states) _ _
      ∙ sum_cong (length T.states) _ _ (λ s h.
      length-append (map edges (steps_out T s)) (rest s) ∙ ap₂ ◌+◌ (length-map (steps_out T s) edges) (size s))
      ∙ sum_add (length T.states) _ _
      ∙ ap₂ ◌+◌ steps_out_count (sum_constant (length T.states) c)

  -- N, G where there is one, and the level
  own_size : (f : Family) (i m s : ℕ) → length (own_variables f i m s) ≡ own_count f
  own_size Release i m s = refl
  own_size Until i m s = refl
  own_size Eventually i m s = refl
  own_size Always i m s = refl

  -- a node has as many variables as it costs
  node_count : (i : ℕ) (o : Operator) → length (node_variables T i o) ≡ cost_of (length T.states) (length T.steps) o
  unfolding node_variables
  node_count i (constant b) = one_each (length T.states) (node i)
  node_count i (atom p) = one_each (length T.states) (node i)
  node_count i (negation a) = one_each (length T.states) (node i)
  node_count i (conjunction a b) = one_each (length T.states) (node i)
  node_count i (disjunction a b) = one_each (length T.states) (node i)
  node_count i (next q a) = level_count (edge i 0) 1 _ (λ s. refl) ∙ ap (λ (k : ℕ). length T.steps + k) (mul-one _)
  node_count i (fixpoint f q a b) =
      length-append (map (level i 0) (below (length T.states))) _
      ∙ ap₂ ◌+◌ (one_each (length T.states) (level i 0)) (
      length-concat (length T.states) _ _
      ∙ sum_cong (length T.states) _ _ (λ m h. level_count (edge i (suc m)) (own_count f) _ (own_size f i (suc m)))
      ∙ sum_constant (length T.states) _
      ∙ ap (λ (k : ℕ). length T.states * (length T.steps + k)) (mul_comm (length T.states) (own_count f)))

-- the costs of the nodes add up
pub costs-sum : (n e : ℕ) (xs : List Node)
    → sum_below (length xs) (λ i. cost_of n e (operator_of (get_or xs i zero_node))) ≡ costs n e xs
unfolding sum_below costs
costs-sum n e [] = refl
costs-sum n e (x ∷ xs) =
    sum_low (length xs) (λ i. cost_of n e (operator_of (get_or (x ∷ xs) i zero_node)))
    ∙ ap (λ (k : ℕ). cost_of n e (operator_of x) + k) (costs-sum n e xs)

-- A table has as many variables as the formula says.
pub count_formula : (T : Table) → Wellformed T → variable_count T ≡ variable_formula T
unfolding variables variable_formula
count_formula T wf =
    length-append (map step (below (length T.steps)) ++ map kept (below (length T.states))) _
    ∙ ap₂ ◌+◌
    (length-append (map step (below (length T.steps))) _
    ∙ ap₂ ◌+◌ (one_each (length T.steps) step) (one_each (length T.states) kept))
    (length-concat (length T.nodes) _ _
    ∙ sum_cong (length T.nodes) _ _ (λ i h. node_count T wf i (operator_of (node_at T i)))
    ∙ costs-sum (length T.states) (length T.steps) T.nodes)

-- ---- how many they are at most

-- a level has at most three variables at one state, beside its step gates
own_few : (f : Family) → own_count f ≤ 3
own_few Release = omega arith
own_few Until = omega arith
own_few Eventually = omega arith
own_few Always = omega arith

-- a node's cost in a table of at most 32 states and 128 steps
cost_most : (n e : ℕ) → n ≤ 32 → e ≤ 128 → (o : Operator) → cost_of n e o ≤ 7200
cost_most n e few-n few-e (constant b) = omega arith
cost_most n e few-n few-e (atom p) = omega arith
cost_most n e few-n few-e (negation a) = omega arith
cost_most n e few-n few-e (conjunction a b) = omega arith
cost_most n e few-n few-e (disjunction a b) = omega arith
cost_most n e few-n few-e (next q a) = omega arith
cost_most n e few-n few-e (fixpoint f q a b) =
    let own : own_count f * n ≤ 3 * 32 = mul-le-mul (own_few f) few-n in
    let h : n * (e + own_count f * n) ≤ 32 * 224 = mul-le-mul {m₂ = 224} few-n (omega arith) in
    omega arith

costs_most : (n e : ℕ) → n ≤ 32 → e ≤ 128 → (xs : List Node) → costs n e xs ≤ length xs * 7200
unfolding costs
costs_most n e few-n few-e [] = omega arith
costs_most n e few-n few-e (x ∷ xs) =
    omega (arith, cost_most n e few-n few-e (operator_of x), costs_most n e few-n few-e xs)

-- the first node has no children, so no levels
leaf_cost : (n e : ℕ) (o : Operator) → Below 0 o → cost_of n e o ≤ n
leaf_cost n e (constant b) h = omega arith
leaf_cost n e (atom p) h = omega arith
leaf_cost n e (negation a) h = omega arith
leaf_cost n e (conjunction a b) h = omega arith
leaf_cost n e (disjunction a b) h = omega arith
leaf_cost n e (next q a) h = absurd (not-suc-le-zero h)
leaf_cost n e (fixpoint f q a b) h = absurd (not-suc-le-zero h.0)

first_cost : (n e : ℕ) → n ≤ 32 → e ≤ 128 → (xs : List Node) → length xs ≤ 32 → 1 ≤ length xs
    → Below 0 (operator_of (get_or xs 0 zero_node))
    → costs n e xs ≤ 223232
unfolding costs
first_cost n e few-n few-e [] few some leaf = absurd (not-suc-le-zero some)
first_cost n e few-n few-e (x ∷ xs) few some leaf =
    omega (arith, leaf_cost n e (operator_of x) leaf, costs_most n e few-n few-e xs)

-- No table has more than 223392 variables.
pub few_variables : (T : Table) → Wellformed T → variable_formula T ≤ 223392
unfolding variable_formula
few_variables T wf =
    let first = first_cost (length T.states) (length T.steps) wf.few_states wf.few_steps T.nodes wf.few_nodes
    wf.some_node
    (children_below T wf 0 wf.some_node) in
    omega (arith, wf.few_states, wf.few_steps)
