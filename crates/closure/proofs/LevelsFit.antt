-- Where the stored levels lie: the words of each node begin where those of the nodes before it end, and all of them
-- fit into what there is of levels.
use Prim.Native.Nat.{ℕ, zero, suc, ◌+◌, ◌*◌, ◌-◌, ◌≤◌, ◌<◌, zero-le}
use native.Mathlib.Numerals.{add-one}
use native.Mathlib.Omega.{arith}
use mathlib.Core.Path.{◌≡◌, ap, ◌∙◌}
use mathlib.Core.List.{List, [], ◌∷◌}
use lib.ListN.{length, get_or, take}
use lib.Seq.{take_all}
use Rattle.table.specs.declared.record.Node.{Node}
use Rattle.table.specs.declared.operator.Family.{Family}
use Rattle.table.specs.Table.{Table, zero_node, node_at}
use Rattle.ctl.specs.Rule.{Quantifier, Operator, fixpoint, operator_of}
use Rattle.closure.specs.Knowledge.{level_size, level_sizes, level_base, level_total}

module _ (n : ℕ) where
  -- the words of one node more
  sizes_next : (xs : List Node) (i : ℕ) (d : Node) → i < length xs
      → level_sizes n (take (suc i) xs) ≡ level_sizes n (take i xs) + level_size n (operator_of (get_or xs i d))
  unfolding level_sizes
  sizes_next [] i d h = absurd (omega arith)
  sizes_next (x ∷ xs) zero d h = omega arith
  sizes_next (x ∷ xs) (suc i) d h = let rest = sizes_next xs i d (omega arith) in omega arith

  -- more nodes take no fewer words
  sizes_up : (xs : List Node) (j k : ℕ) → j ≤ k → level_sizes n (take j xs) ≤ level_sizes n (take k xs)
  unfolding level_sizes
  sizes_up xs zero k h = zero-le
  sizes_up xs (suc j) zero h = absurd (omega arith)
  sizes_up [] (suc j) (suc k) h = zero-le
  sizes_up (x ∷ xs) (suc j) (suc k) h = let rest = sizes_up xs j k (omega arith) in omega arith

-- the words of the next node begin where those of this one end
pub base_next : (T : Table) (i : ℕ) → i < length T.nodes
    → level_base T (i + 1) ≡ level_base T i + level_size (length T.states) (operator_of (node_at T i))
base_next T i h = rw (add-one i) (sizes_next (length T.states) T.nodes i zero_node h)

-- those of a node end before those of a later one
pub level_apart : (T : Table) (i k : ℕ) → i < k → k < length T.nodes
    → level_base T i + level_size (length T.states) (operator_of (node_at T i)) ≤ level_base T k
level_apart T i k l h =
    omega (arith, base_next T i (omega arith), sizes_up (length T.states) T.nodes (i + 1) k (omega arith))

-- and all of them before the end
pub level-place : (T : Table) (i : ℕ) (fam : Family) (q : Quantifier) (a b : ℕ) → i < length T.nodes
    → operator_of (node_at T i) ≡ fixpoint fam q a b
    → level_base T i + 2 * (length T.states - 1) ≤ level_total T
level-place T i fam q a b h e =
    let n = length T.states in
    let ends : level_base T (i + 1) ≡ level_base T i + 2 * (n - 1) =
    base_next T i h ∙ ap (λ (o : Operator). level_base T i + level_size n o) e in
    let all : level_base T (length T.nodes) ≡ level_total T =
    ap (level_sizes n) (take_all (length T.nodes) T.nodes (omega arith)) in
    omega (arith, ends, all, sizes_up n T.nodes (i + 1) (length T.nodes) (omega arith))
