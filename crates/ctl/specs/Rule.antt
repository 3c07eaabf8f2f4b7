-- The rule of a table: the formula of each node, read off the nodes, children first. Specification, "Rules".
use Rattle.std.specs.Prelude.{ℕ, ◌-◌, true, false, List, [], ◌∷◌, ◌++◌, length, get_or}
use Rattle.table.specs.declared.record.Node.{Node}
use Rattle.table.specs.declared.operator.Family.TheVariants.{Release, Until, Eventually, Always}
use Rattle.table.specs.Table.{Table}
use Rattle.ctl.specs.Meaning.{
  Formula,
  bottom,
  top,
  proposition,
  neg,
  both,
  either,
  ax,
  ex,
  av,
  ev,
  au,
  eu,
  af,
  ef,
  ag,
  eg,
}
-- the operator that each kind puts on its children
pub use Rattle.table.specs.declared.operator.Quantifier.{Quantifier}
pub use Rattle.table.specs.declared.operator.Quantifier.TheVariants.{Every as every, Some as some}
pub use Rattle.table.specs.declared.operator.Operator.{Operator}
pub use Rattle.table.specs.declared.operator.Operator.TheVariants.{
  Constant as constant,
  Atom as atom,
  Negation as negation,
  Conjunction as conjunction,
  Disjunction as disjunction,
  Next as next,
  Fixpoint as fixpoint,
}
pub use Rattle.table.specs.Operator.{operator_of}

-- Values of the nodes, children first: `value` makes a node's of those of the nodes before it, and `done` has those.
unfoldable pub bottom_up : {A : Type 0} → (Operator → (ℕ → A) → A) → A → List A → List Node → List A
bottom_up value none done [] = done
bottom_up value none done (x ∷ xs) =
    bottom_up value none (done ++ (value (operator_of x) (λ i. get_or done i none) ∷ [])) xs

-- the formula of a node, given those of its children
unfoldable pub formula_of : Operator → (ℕ → Formula) → Formula
formula_of (constant false) child = bottom
formula_of (constant true) child = top
formula_of (atom p) child = proposition p
formula_of (negation a) child = neg (child a)
formula_of (conjunction a b) child = both (child a) (child b)
formula_of (disjunction a b) child = either (child a) (child b)
formula_of (next every a) child = ax (child a)
formula_of (next some a) child = ex (child a)
formula_of (fixpoint Release every a b) child = av (child a) (child b)
formula_of (fixpoint Release some a b) child = ev (child a) (child b)
formula_of (fixpoint Until every a b) child = au (child a) (child b)
formula_of (fixpoint Until some a b) child = eu (child a) (child b)
formula_of (fixpoint Eventually every a b) child = af (child b)
formula_of (fixpoint Eventually some a b) child = ef (child b)
formula_of (fixpoint Always every a b) child = ag (child b)
formula_of (fixpoint Always some a b) child = eg (child b)

-- the formula of node i
unfoldable pub formula : Table → ℕ → Formula
formula T i = get_or (bottom_up formula_of bottom [] T.nodes) i bottom

-- the last node is the root
abbrev pub root_index : Table → ℕ
root_index T = length T.nodes - 1
