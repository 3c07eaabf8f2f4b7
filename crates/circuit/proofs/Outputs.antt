-- The outputs of the gates are the variables that are no steps, in the order of the variables.
use Prim.Native.Nat.{ℕ, suc, ◌<◌}
use mathlib.Core.Path.{◌≡◌, refl, sym, ap, ap₂, fun_ext, subst, ◌∙◌}
use mathlib.Core.Logic.{◌⊎◌, ⊎_map}
use mathlib.Core.List.Memᴰ
use mathlib.Core.List.{List, [], ◌∷◌, ◌++◌, append_assoc, map, map-map, map-append, Memᴰ}
use lib.ListN.{length}
use Rattle.table.specs.declared.operator.Family.{Family}
use Rattle.table.specs.declared.operator.Family.TheVariants.{Release, Until, Eventually, Always}
use Rattle.table.specs.Table.{Table, node_at}
use Rattle.ctl.specs.Rule.{
  Quantifier,
  Operator,
  constant,
  atom,
  negation,
  conjunction,
  disjunction,
  next,
  fixpoint,
  operator_of,
}
use Rattle.circuit.specs.Logic.{Gate}
use Rattle.circuit.specs.Variables.{
  Var,
  step,
  kept,
  node,
  edge,
  ahead,
  level,
  concat,
  steps_out,
  own_variables,
  value,
  node_variables,
  variables,
}
use Rattle.circuit.specs.Gates.{Defined, is, edges, join_gates, level_gates, at_states, node_gates, kept_gates, gates}
use Rattle.ctl.proofs.Select.{in_below}
use Rattle.ctl.specs.Range.{below}

-- the outputs of gates
abbrev pub outputs : List Defined → List Var
outputs = map (λ d. d.output)

-- ---- mapped lists that are joined

outputs_concat : (dss : List (List Defined)) → outputs (concat dss) ≡ concat (map outputs dss)
unfolding concat
outputs_concat [] = refl
outputs_concat (ds ∷ dss) =
    map-append (λ d. d.output) ds (concat dss) ∙ ap (λ (vs : List Var). outputs ds ++ vs) (outputs_concat dss)

-- gates for each number
outputs_over : (F : ℕ → List Defined) (vs : ℕ → List Var) → ((k : ℕ) → outputs (F k) ≡ vs k) → (n : ℕ)
    → outputs (concat (map F (below n))) ≡ concat (map vs (below n))
outputs_over F vs e n =
    outputs_concat (map F (below n))
    ∙ ap concat (map-map outputs F (below n) ∙ ap (λ (f : ℕ → List Var). map f (below n)) (fun_ext e))

-- one element for each number
concat-ones : {A : Type 0} (f : ℕ → A) (ks : List ℕ) → concat (map (λ k. f k ∷ []) ks) ≡ map f ks
unfolding concat
concat-ones f [] = refl
concat-ones {A} f (k ∷ ks) = ap (λ (l : List A). f k ∷ l) (concat-ones f ks)

-- ---- the outputs, node by node

module _ (T : Table) where
  one_outputs : (f : ℕ → Var) (G : ℕ → Gate Var)
      → outputs (at_states T (λ s. is (f s) (G s) ∷ [])) ≡ map f (below (length T.states))
  one_outputs f G =
      outputs_over (λ s. is (f s) (G s) ∷ []) (λ s. f s ∷ []) (λ s. refl) (length T.states)
      ∙ concat-ones f (below (length T.states))

  edge_outputs : (q : Quantifier) (i m : ℕ) (end : ℕ → Var) (s : ℕ) (ds : List Defined)
      → outputs (edges T q i m end s ++ ds) ≡ map (edge i m) (steps_out T s) ++ outputs ds
  edge_outputs q i m end s ds =
      map-append (λ d. d.output) (edges T q i m end s) ds
      ∙ ap (λ (vs : List Var). vs ++ outputs ds)
      (map-map (λ (d : Defined). d.output) (λ j. is (edge i m j) _) (steps_out T s))

  -- N, G where there is one, and the level
  own_outputs : (f : Family) (i a b m s : ℕ) → ahead i m s ∷ outputs (join_gates T f i a b m s) ≡ own_variables f i m s
  own_outputs Release i a b m s = refl
  own_outputs Until i a b m s = refl
  own_outputs Eventually i a b m s = refl
  own_outputs Always i a b m s = refl

  -- the outputs of a node's gates are its variables
  pub node_outputs : (i : ℕ) (o : Operator) → outputs (node_gates T i o) ≡ node_variables T i o
  unfolding node_gates node_variables
  node_outputs i (constant b) = one_outputs (node i) _
  node_outputs i (atom p) = one_outputs (node i) _
  node_outputs i (negation a) = one_outputs (node i) _
  node_outputs i (conjunction a b) = one_outputs (node i) _
  node_outputs i (disjunction a b) = one_outputs (node i) _
  node_outputs i (next q a) = outputs_over _ _ (λ s. edge_outputs q i 0 (value T a) s _) (length T.states)
  node_outputs i (fixpoint f q a b) =
      map-append (λ d. d.output) (at_states T _) _
      ∙ ap₂ ◌++◌ (one_outputs (level i 0) _)
      (outputs_over _ _ (λ m. outputs_over (level_gates T f q i a b m) _
      (λ s. edge_outputs q i (suc m) (level i m) s _
      ∙ ap (λ (vs : List Var). map (edge i (suc m)) (steps_out T s) ++ vs) (own_outputs f i a b (suc m) s))
      (length T.states)) (length T.states))

  -- The variables are the steps and then the outputs of the gates.
  pub variables_outputs : variables T ≡ map step (below (length T.steps)) ++ outputs (gates T)
  unfolding variables gates
  variables_outputs =
      append_assoc (map step (below (length T.steps))) _ _
      ∙ ap (λ (vs : List Var). map step (below (length T.steps)) ++ vs) (sym (
      map-append (λ d. d.output) (kept_gates T) _
      ∙ ap₂ ◌++◌ (one_outputs kept _)
      (outputs_over _ _ (λ i. node_outputs i (operator_of (node_at T i))) (length T.nodes))))

  -- a variable is a step or the output of a gate
  pub variable_cases : (v : Var) → Memᴰ v (variables T)
      → ((j : ℕ) × (j < length T.steps) × (step j ≡ v)) ⊎ ((d : Defined) × Memᴰ d (gates T) × (d.output ≡ v))
  variable_cases v m = ⊎_map
      (λ i. let r = Memᴰ.of_map step (below (length T.steps)) i in (r.0, (in_below (length T.steps) r.0).0 r.1, r.2))
      (Memᴰ.of_map (λ d. d.output) (gates T))
      (Memᴰ.append_cases (map step (below (length T.steps))) (subst (Memᴰ v) variables_outputs m))

  -- a step is a variable
  pub step_variable : (j : ℕ) → j < length T.steps → Memᴰ (step j) (variables T)
  step_variable j h =
      subst (Memᴰ (step j)) (sym variables_outputs)
      (Memᴰ.append_left (outputs (gates T)) (Memᴰ.map step ((in_below (length T.steps) j).1 h)))

  -- and so is the output of a gate
  pub output_variable : (v : Var) → Memᴰ v (outputs (gates T)) → Memᴰ v (variables T)
  output_variable v m = subst (Memᴰ v) (sym variables_outputs) (Memᴰ.append_right (map step (below (length T.steps))) m)
