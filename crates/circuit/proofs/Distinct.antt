-- The variables of a table are all different.
use Prim.Native.Nat.{ℕ, suc, pred, ◌≤◌, ◌<◌}
use native.Mathlib.Omega.{arith}
use mathlib.Core.Path.{◌≡◌, refl, ap, ◌∙◌}
use mathlib.Core.List.Memᴰ
use mathlib.Core.List.{List, [], ◌∷◌, ◌++◌, map}
use lib.ListN.{length, get_or, length-map, get_or-append, get_or-map}
use Rattle.table.specs.declared.operator.Family.{Family}
use Rattle.table.specs.declared.operator.Family.TheVariants.{Release, Until, Eventually, Always}
use Rattle.table.specs.Table.{Table, node_at, step_at}
use Rattle.ctl.specs.Rule.{Operator, constant, atom, negation, conjunction, disjunction, next, fixpoint, operator_of}
use Rattle.ctl.proofs.Tabulate.{length_tabulate, get_d_tabulate}
use Rattle.circuit.specs.Variables.{
  Var,
  step,
  kept,
  node,
  edge,
  ahead,
  inner,
  level,
  concat,
  steps_out,
  own_variables,
  level_variables,
  node_variables,
  variables,
  variable_count,
}
use Rattle.circuit.specs.Gates.{gates}
use Rattle.circuit.proofs.Lists.{Each, each_more, each_one, each_append, each_map, each_over, in_out}
use Rattle.circuit.proofs.NoRepeat.{
  NoRepeat,
  no_repeat_at,
  no_repeat_append,
  no_repeat_map,
  no_repeat_each,
  no_repeat_over,
  no_repeat_out,
}
use Rattle.circuit.proofs.Outputs.{outputs, variables_outputs}
use Rattle.ctl.specs.Range.{below}

-- ---- what tells variables apart

-- the kind of a variable
abbrev kind_of : Var → ℕ
kind_of (step j) = 0
kind_of (kept s) = 1
kind_of (node i s) = 2
kind_of (edge i m j) = 3
kind_of (ahead i m s) = 4
kind_of (inner i m s) = 5
kind_of (level i m s) = 6

-- its node
abbrev pub node_of : Var → ℕ
node_of (step j) = 0
node_of (kept s) = 0
node_of (node i s) = i
node_of (edge i m j) = i
node_of (ahead i m s) = i
node_of (inner i m s) = i
node_of (level i m s) = i

-- its level
abbrev level_of : Var → ℕ
level_of (step j) = 0
level_of (kept s) = 0
level_of (node i s) = 0
level_of (edge i m j) = m
level_of (ahead i m s) = m
level_of (inner i m s) = m
level_of (level i m s) = m

-- its state: of a step, the state that it leaves
abbrev state_of : Table → Var → ℕ
state_of T (step j) = (step_at T j).from
state_of T (kept s) = s
state_of T (node i s) = s
state_of T (edge i m j) = (step_at T j).from
state_of T (ahead i m s) = s
state_of T (inner i m s) = s
state_of T (level i m s) = s

-- v is of node i and of level m
abbrev IsOf : ℕ → ℕ → Var → Type 0
IsOf i m v = (node_of v ≡ i) × (level_of v ≡ m) × (2 ≤ kind_of v)

-- ---- the variables

module _ (T : Table) where
  -- of one state: the step gates, and others, which are of another kind
  state_distinct : (i m s : ℕ) (rest : List Var) → NoRepeat rest → Each (λ v. ¬ (kind_of v ≡ 3)) rest
      → NoRepeat (map (edge i m) (steps_out T s) ++ rest)
  state_distinct i m s rest n kinds = no_repeat_append (λ v. kind_of v ≡ 3) (map (edge i m) (steps_out T s)) rest
      (no_repeat_map (edge i m) (λ j k e. cc) (steps_out T s) (no_repeat_out 0 T.steps s)) n
      (each_map _ (edge i m) (steps_out T s) (λ j h. refl)) kinds

  -- each is of this state
  state_key : (i m s : ℕ) (rest : List Var) → Each (λ v. state_of T v ≡ s) rest
      → Each (λ v. state_of T v ≡ s) (map (edge i m) (steps_out T s) ++ rest)
  state_key i m s rest keys = each_append _ (map (edge i m) (steps_out T s)) rest
      (each_map _ (edge i m) (steps_out T s) (λ j h. ((in_out T s j).0 h).1)) keys

  -- so those of all states are distinct
  states-distinct : (i m : ℕ) (rest : ℕ → List Var) → ((s : ℕ) → NoRepeat (rest s))
      → ((s : ℕ) → Each (λ v. ¬ (kind_of v ≡ 3)) (rest s))
      → ((s : ℕ) → Each (λ v. state_of T v ≡ s) (rest s))
      → NoRepeat (concat (map (λ s. map (edge i m) (steps_out T s) ++ rest s) (below (length T.states))))
  states-distinct i m rest n kinds keys = no_repeat_over (length T.states) (state_of T) _
      (λ s. state_distinct i m s (rest s) (n s) (kinds s)) (λ s. state_key i m s (rest s) (keys s))

  -- what holds of N, of G and of the level of one state holds of each of them that there is
  own_each : (f : Family) (i m s : ℕ) (P : Var → Type 0) → P (ahead i m s) → P (inner i m s) → P (level i m s)
      → Each P (own_variables f i m s)
  own_each Release i m s P p q r = each_more _ _ _ p (each_more _ _ _ q (each_one _ _ r))
  own_each Until i m s P p q r = each_more _ _ _ p (each_more _ _ _ q (each_one _ _ r))
  own_each Eventually i m s P p q r = each_more _ _ _ p (each_one _ _ r)
  own_each Always i m s P p q r = each_more _ _ _ p (each_one _ _ r)

  three_distinct : (i m s : ℕ) → NoRepeat (ahead i m s ∷ inner i m s ∷ level i m s ∷ [])
  three_distinct i m s = (
    λ h. each_more (λ v. ¬ (kind_of v ≡ 4)) _ _ (omega arith) (each_one _ _ (omega arith)) (ahead i m s) h refl,
    (λ h. each_one (λ v. ¬ (kind_of v ≡ 5)) _ (omega arith) (inner i m s) h refl, (Memᴰ.not-nil, tt)),
  )

  two_distinct : (i m s : ℕ) → NoRepeat (ahead i m s ∷ level i m s ∷ [])
  two_distinct i m s = (λ h. each_one (λ v. ¬ (kind_of v ≡ 4)) _ (omega arith) (ahead i m s) h refl, (Memᴰ.not-nil, tt))

  own_distinct : (f : Family) (i m s : ℕ) → NoRepeat (own_variables f i m s)
  own_distinct Release = three_distinct
  own_distinct Until = three_distinct
  own_distinct Eventually = two_distinct
  own_distinct Always = two_distinct

  -- the variables of one level
  level-distinct : (f : Family) (i m : ℕ) → NoRepeat (level_variables T f i m)
  level-distinct f i m = states-distinct i m _ (own_distinct f i m)
      (λ s. own_each f i m s _ (omega arith) (omega arith) (omega arith))
      (λ s. own_each f i m s _ refl refl refl)

  -- each is of this level
  level_key : (f : Family) (i m : ℕ) → Each (IsOf i m) (level_variables T f i m)
  level_key f i m = each_over (length T.states) _ _ (λ s h. each_append _ (map (edge i m) (steps_out T s)) _
      (each_map _ (edge i m) (steps_out T s) (λ j h. (refl, refl, omega arith)))
      (own_each f i m s _ (refl, refl, omega arith) (refl, refl, omega arith) (refl, refl, omega arith)))

  -- the variables of a node are those of a kind without next states, of a kind with next states, or of levels
  node_cases : (i : ℕ) (P : List Var → Type 0) → P (map (node i) (below (length T.states)))
      → P (concat (map (λ s. map (edge i 0) (steps_out T s) ++ (node i s ∷ [])) (below (length T.states))))
      → ((f : Family) → P (map (level i 0) (below (length T.states))
      ++ concat (map (λ m. level_variables T f i (suc m)) (below (length T.states)))))
      → (o : Operator) → P (node_variables T i o)
  unfolding node_variables
  node_cases i P plain steps levels (constant b) = plain
  node_cases i P plain steps levels (atom p) = plain
  node_cases i P plain steps levels (negation a) = plain
  node_cases i P plain steps levels (conjunction a b) = plain
  node_cases i P plain steps levels (disjunction a b) = plain
  node_cases i P plain steps levels (next q a) = steps
  node_cases i P plain steps levels (fixpoint f q a b) = levels f

  -- the variables of one node
  node_distinct : (i : ℕ) (o : Operator) → NoRepeat (node_variables T i o)
  node_distinct i = node_cases i NoRepeat
      (no_repeat_each (length T.states) (node i) (λ s t e. cc))
      (states-distinct i 0 (λ s. node i s ∷ []) (λ s. (Memᴰ.not-nil, tt)) (λ s. each_one _ _ (omega arith))
      (λ s. each_one _ _ refl))
      (λ f. no_repeat_append (λ v. level_of v ≡ 0) (map (level i 0) (below (length T.states))) _
      (no_repeat_each (length T.states) (level i 0) (λ s t e. cc))
      (no_repeat_over (length T.states) (λ v. pred (level_of v)) _
      (λ m. level-distinct f i (suc m)) (λ m v h. ap pred (level_key f i (suc m) v h).1))
      (each_map _ (level i 0) (below (length T.states)) (λ s h. refl))
      (each_over (length T.states) _ _ (λ m h v k e. omega (arith, (level_key f i (suc m) v k).1))))

  -- each variable of a node is of this node
  node_key : (i : ℕ) (o : Operator) → Each (λ v. (node_of v ≡ i) × (2 ≤ kind_of v)) (node_variables T i o)
  node_key i = node_cases i (Each _)
      (each_map _ (node i) (below (length T.states)) (λ s h. (refl, omega arith)))
      (each_over (length T.states) _ _ (λ s h. each_append _ (map (edge i 0) (steps_out T s)) _
      (each_map _ (edge i 0) (steps_out T s) (λ j h. (refl, omega arith))) (each_one _ _ (refl, omega arith))))
      (λ f. each_append _ (map (level i 0) (below (length T.states))) _
      (each_map _ (level i 0) (below (length T.states)) (λ s h. (refl, omega arith)))
      (each_over (length T.states) _ _ (λ m h v k. let r = level_key f i (suc m) v k in (r.0, r.2))))

  -- no variable stands twice
  pub variables_no_repeat : NoRepeat (variables T)
  unfolding variables
  variables_no_repeat =
      no_repeat_append (λ v. kind_of v ≤ 1) (map step (below (length T.steps)) ++ map kept (below (length T.states))) _
      (no_repeat_append (λ v. kind_of v ≡ 0) (map step (below (length T.steps))) _
      (no_repeat_each (length T.steps) step (λ s t e. cc))
      (no_repeat_each (length T.states) kept (λ s t e. cc))
      (each_map _ step (below (length T.steps)) (λ j h. refl))
      (each_map _ kept (below (length T.states)) (λ s h. omega arith)))
      (no_repeat_over (length T.nodes) node_of _
      (λ i. node_distinct i (operator_of (node_at T i))) (λ i v h. (node_key i (operator_of (node_at T i)) v h).0))
      (each_append _ (map step (below (length T.steps))) _
      (each_map _ step (below (length T.steps)) (λ j h. omega arith))
      (each_map _ kept (below (length T.states)) (λ s h. omega arith)))
      (each_over (length T.nodes) _ _ (λ i h v k few. omega (arith, (node_key i (operator_of (node_at T i)) v k).1)))

  -- The variables at two places differ.
  pub variables_distinct : (i j : ℕ) → i < j → j < variable_count T
      → ¬ (get_or (variables T) i (step 0) ≡ get_or (variables T) j (step 0))
  variables_distinct = no_repeat_at (variables T) (step 0) variables_no_repeat

  -- The variables begin with the steps.
  pub step_first : (j : ℕ) → j < length T.steps → get_or (variables T) j (step 0) ≡ step j
  step_first j h =
      let e = length T.steps in
      ap (λ (vs : List Var). get_or vs j (step 0)) (variables_outputs T)
      ∙ get_or-append (map step (below e)) (outputs (gates T)) (step 0) j
      (rw (length-map (below e) step, length_tabulate e (λ k. k)) h)
      ∙ get_or-map step (below e) j 0
      ∙ ap step (get_d_tabulate e (λ k. k) j 0 h)
