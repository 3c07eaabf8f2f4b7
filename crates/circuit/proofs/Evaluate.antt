-- The evaluation of a list: the value that each variable has where the steps are kept as the list says.
use Prim.Native.Nat.{ℕ, zero, suc, pred, ◌<◌}
use mathlib.Core.Path.{◌≡◌, refl}
use mathlib.Core.Bool.{Bool, false, not, ◌&&◌, ◌||◌}
use mathlib.Core.List.{List, []}
use lib.Dec.{eqb}
use lib.ListN.{length, get_or}
use Rattle.sets.specs.Member.{member}
use Rattle.table.specs.declared.operator.Family.{Family}
use Rattle.table.specs.declared.operator.Family.TheVariants.{Release, Until, Eventually, Always}
use Rattle.table.specs.Table.{Table, state_at, node_at, step_at}
use Rattle.table.specs.Accept.{any as any_of}
use Rattle.table.specs.Facts.{Wellformed}
use Rattle.ctl.specs.Rule.{
  Quantifier,
  every,
  some,
  Operator,
  constant,
  atom,
  negation,
  conjunction,
  disjunction,
  next,
  fixpoint,
  operator_of,
  bottom_up,
}
use Rattle.ctl.specs.Levels.{joined}
use Rattle.ctl.proofs.BottomUp.{Reads as ReadsChildren, bottom_up_children}
use Rattle.circuit.specs.Variables.{Var, step, kept, node, edge, ahead, inner, level, steps_out}
use Rattle.circuit.proofs.Quantified.{quantified}

-- what a step says of its end: for A that it is struck or its end has x, for E that it is kept and its end has x
abbrev pub edge_value : Quantifier → Bool → Bool → Bool
edge_value every e x = not e || x
edge_value some e x = e && x

-- the family, the quantifier and the children of a kind with next states; those of the others are not looked at
abbrev pub Shape : Type 0
Shape = Family × Quantifier × ℕ × ℕ

abbrev pub shape : Operator → Shape
shape (constant b) = (Release, every, 0, 0)
shape (atom p) = (Release, every, 0, 0)
shape (negation a) = (Release, every, 0, 0)
shape (conjunction a b) = (Release, every, 0, 0)
shape (disjunction a b) = (Release, every, 0, 0)
shape (next q a) = (Release, q, a, a)
shape (fixpoint f q a b) = (f, q, a, b)

-- those of node i
abbrev pub shape_at : Table → ℕ → Shape
shape_at T i = shape (operator_of (node_at T i))

-- what G is of a and N; eventually and always have none
abbrev pub inner_value : Family → Bool → Bool → Bool
inner_value Release a x = a || x
inner_value Until a x = a && x
inner_value Eventually a x = x
inner_value Always a x = x

module _ (T : Table) (list : List ℕ) where
  -- the list keeps step j
  abbrev pub keeps : ℕ → Bool
  keeps j = eqb (get_or list j 0) 1

  -- the list keeps a step out of s
  unfoldable pub kept_value : ℕ → Bool
  kept_value s = any_of keeps (steps_out T s)

  -- AX or EX of f at s
  unfoldable pub ahead_value : Quantifier → (ℕ → Bool) → ℕ → Bool
  ahead_value q f s = quantified q (λ j. edge_value q (keeps j) (f (step_at T j).to)) (steps_out T s)

  -- level m of a family over x and y
  unfoldable pub level_value : Family → Quantifier → (ℕ → Bool) → (ℕ → Bool) → ℕ → ℕ → Bool
  level_value f q x y zero s = y s
  level_value f q x y (suc m) s = joined f (x s) (y s) (ahead_value q (level_value f q x y m) s)

  -- the values of a node at the states, given those of its children
  unfoldable pub values_of : Operator → (ℕ → ℕ → Bool) → ℕ → Bool
  values_of (constant b) child s = b
  values_of (atom p) child s = member (state_at T s).label p
  values_of (negation a) child s = not (child a s)
  values_of (conjunction a b) child s = child a s && child b s
  values_of (disjunction a b) child s = child a s || child b s
  values_of (next q a) child s = ahead_value q (child a) s
  values_of (fixpoint f q a b) child s = level_value f q (child a) (child b) (length T.states) s

  -- X of node i
  unfoldable pub node_value : ℕ → ℕ → Bool
  node_value i = get_or (bottom_up values_of (λ s. false) [] T.nodes) i (λ s. false)

  values_read : ReadsChildren values_of
  unfolding values_of
  values_read (constant b) f g e = refl
  values_read (atom p) f g e = refl
  values_read (negation a) f g e = λ i s. not (e i s)
  values_read (conjunction a b) f g e = λ i s. e.0 i s && e.1 i s
  values_read (disjunction a b) f g e = λ i s. e.0 i s || e.1 i s
  values_read (next q a) f g e = λ i. ahead_value q (e i)
  values_read (fixpoint k q a b) f g e = λ i. level_value k q (e.0 i) (e.1 i) (length T.states)

  -- X of a node is made of those of its children
  pub node_value_lem : Wellformed T → (i : ℕ) → i < length T.nodes
      → node_value i ≡ values_of (operator_of (node_at T i)) node_value
  unfolding node_value
  node_value_lem wf i h = bottom_up_children values_of (λ s. false) values_read T wf i h

  -- ---- the assignment

  -- level m of a node of this shape
  abbrev pub level_of : Shape → ℕ → ℕ → Bool
  level_of (f, q, a, b) = level_value f q (node_value a) (node_value b)

  -- what each variable is under the list
  unfoldable pub assignment : Var → Bool
  assignment (step j) = keeps j
  assignment (kept s) = kept_value s
  assignment (node i s) = node_value i s
  assignment (edge i m j) = let o = shape_at T i in edge_value o.1 (keeps j) (level_of o (pred m) (step_at T j).to)
  assignment (ahead i m s) = let o = shape_at T i in ahead_value o.1 (level_of o (pred m)) s
  assignment (inner i m s) = let o = shape_at T i in inner_value o.0 (node_value o.2 s)
      (ahead_value o.1 (level_of o (pred m)) s)
  assignment (level i m s) = level_of (shape_at T i) m s
