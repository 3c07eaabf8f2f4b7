-- How many words a node's levels take, by its kind, and where those of each node begin, past the last node too.
use Prim.Native.Nat.{ℕ, ◌+◌, ◌≤◌, ◌<◌}
use mathlib.Core.Path.{◌≡◌, ap}
use native.Mathlib.Decide.{dec_lt}
use native.Mathlib.Omega.{arith}
use lib.ListN.{length}
use lib.Seq.{take_all}
use Rattle.table.specs.declared.record.Node.{Node}
use Rattle.table.specs.Table.{Table, node_at}
use Rattle.table.proofs.Past.{node_past}
use Rattle.ctl.specs.Rule.{Operator, constant, atom, negation, conjunction, disjunction, next, fixpoint, operator_of}
use Rattle.closure.specs.Knowledge.{level_size, level_sizes, level_base, level_total}
use Rattle.closure.proofs.LevelsFit.{base_next}

-- a node of a table of at most 32 states takes at most 62
pub size_most : (n : ℕ) → n ≤ 32 → (o : Operator) → level_size n o ≤ 62
size_most n few (constant b) = omega arith
size_most n few (atom p) = omega arith
size_most n few (negation a) = omega arith
size_most n few (conjunction a b) = omega arith
size_most n few (disjunction a b) = omega arith
size_most n few (next q a) = omega arith
size_most n few (fixpoint fam q a b) = omega arith

module _ (T : Table) where
  -- past the last node, all words lie before
  pub past : (i : ℕ) → length T.nodes ≤ i → level_base T i ≡ level_total T
  past i h = ap (level_sizes (length T.states)) (take_all i T.nodes h)

  -- the words of the next node begin where those of this one end
  pub base_on : (i : ℕ) → level_base T (i + 1)
      ≡ level_base T i + level_size (length T.states) (operator_of (node_at T i))
  base_on i = go (dec_lt i (length T.nodes))
    where
      go : Dec (i < length T.nodes)
          → level_base T (i + 1) ≡ level_base T i + level_size (length T.states) (operator_of (node_at T i))
      go (yes h) = base_next T i h
      go (no d) =
          let size : level_size (length T.states) (operator_of (node_at T i)) ≡ 0 =
          ap (λ (x : Node). level_size (length T.states) (operator_of x)) (node_past T i (omega (arith, d))) in
          omega (arith, size, past (i + 1) (omega (arith, d)), past i (omega (arith, d)))
