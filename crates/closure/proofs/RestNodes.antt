-- Every gate of a table is at rest where the rules are.
use Prim.Native.Nat.{ℕ, ◌<◌}
use native.Mathlib.Omega.{arith}
use mathlib.Core.Path.{◌≡◌, refl}
use lib.ListN.{length}
use Rattle.sets.specs.Member.{member}
use Rattle.table.specs.Table.{Table, state_at, node_at}
use Rattle.table.specs.Facts.{Wellformed}
use Rattle.ctl.specs.Rule.{
  every,
  some,
  Operator,
  constant,
  atom,
  negation,
  conjunction,
  disjunction,
  next,
  fixpoint,
  operator_of,
}
use Rattle.ctl.proofs.BottomUp.{OfChildren, of-children}
use Rattle.circuit.specs.Gates.{node_gates, kept_gates, gates}
use Rattle.circuit.proofs.Lists.{Each, each_append, each_over}
use Rattle.closure.specs.Knowledge.{Knowledge, Small}
use Rattle.closure.specs.Rest.{RestNode, Rest}
use Rattle.closure.proofs.RestAhead.{Good}
use Rattle.closure.proofs.RestPlain.{constant_good, negation_good, both_good}
use Rattle.closure.proofs.RestLevels.{next_good, fixpoint_good}
use Rattle.closure.proofs.RestBackFull.{OfTable}
use Rattle.closure.proofs.RestKept.{kept_good}

module _ (T : Table) (wf : Wellformed T) (K : Knowledge) (small : Small K) (rest : Rest T K) (ours : OfTable T K) where
  -- the gates of a node
  node_good : (i : ℕ) (h : i < length T.nodes) (o : Operator) → operator_of (node_at T i) ≡ o
      → OfChildren (λ a. a < length T.nodes) o
      → ((s : ℕ) → s < length T.states → RestNode T K i o s) → Each (Good T K) (node_gates T i o)
  unfolding node_gates
  node_good i h (constant b) e c r = constant_good T wf K rest i h (λ s. b) r
  node_good i h (atom p) e c r = constant_good T wf K rest i h (λ s. member (state_at T s).label p) r
  node_good i h (negation a) e c r = negation_good T wf K rest i h a c r
  node_good i h (conjunction a b) e c r = both_good T wf K rest i h every a b c.0 c.1 r
  node_good i h (disjunction a b) e c r = both_good T wf K rest i h some a b c.0 c.1 r
  node_good i h (next q a) e c r = next_good T wf K small rest ours i h q a e c r
  node_good i h (fixpoint fam q a b) e c r = fixpoint_good T wf K small rest ours i h fam q a b e c.0 c.1 r

  -- Every gate's output is what its inputs say, and is not known both ways.
  pub gates_good : Each (Good T K) (gates T)
  unfolding gates
  gates_good = each_append _ (kept_gates T) _ (kept_good T wf K small rest) (each_over (length T.nodes) _ _ (λ i h.
      node_good i h (operator_of (node_at T i)) refl (of-children T wf i h (λ a l. omega arith)) (rest.nodes i h)))
