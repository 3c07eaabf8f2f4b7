-- X of a node is the node's own variable or, where it has levels, its last level.
use Prim.Native.Nat.{ℕ}
use mathlib.Core.Path.{◌≡◌, refl}
use lib.ListN.{length}
use Rattle.table.specs.declared.operator.Family.{Family}
use Rattle.table.specs.Table.{Table, node_at}
use Rattle.ctl.specs.Rule.{
  Quantifier,
  Operator,
  constant,
  atom,
  negation,
  conjunction,
  disjunction,
  next,
  fixpoint,
  operator_of,
}
use Rattle.circuit.specs.Variables.{Var, node, level, value_of, value}

pub value_cases : (T : Table) (P : Var → Type 0) (i s : ℕ) → P (node i s)
    → ((f : Family) (q : Quantifier) (a b : ℕ) → operator_of (node_at T i) ≡ fixpoint f q a b
    → P (level i (length T.states) s)) → P (value T i s)
value_cases T P i s own last = go (operator_of (node_at T i)) refl
  where
    go : (o : Operator) → operator_of (node_at T i) ≡ o → P (value_of T o i s)
    go (constant b) e = own
    go (atom p) e = own
    go (negation a) e = own
    go (conjunction a b) e = own
    go (disjunction a b) e = own
    go (next q a) e = own
    go (fixpoint f q a b) e = last f q a b e
