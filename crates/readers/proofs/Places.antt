-- Where the words of the nodes lie: those of each node begin where those of the node before it end, and all of them
-- lie before the end.
use Prim.Native.Nat.{ℕ, zero, suc, ◌+◌, ◌≤◌, ◌<◌, zero-le}
use native.Mathlib.Omega.{arith}
use mathlib.Core.Path.{◌≡◌, ap}
use mathlib.Core.List.{List, [], ◌∷◌}
use lib.ListN.{length, get_or, take}
use lib.Seq.{take_all}
use Rattle.table.specs.declared.record.Node.{Node}
use Rattle.table.specs.Table.{Table, zero_node, node_at}
use Rattle.ctl.specs.Rule.{Operator, constant, atom, negation, conjunction, disjunction, next, fixpoint, operator_of}
use Rattle.readers.specs.Rising.{Rising}
use Rattle.readers.specs.Readers.{row_count, row_counts, first_word, word_total, AreFirsts}

-- ---- the words of the first nodes

-- a node of a table of at most 32 states has at most 32
pub count_most : (n : ℕ) → n ≤ 32 → (o : Operator) → row_count n o ≤ 32
count_most n few (constant b) = omega arith
count_most n few (atom p) = omega arith
count_most n few (negation a) = omega arith
count_most n few (conjunction a b) = omega arith
count_most n few (disjunction a b) = omega arith
count_most n few (next q a) = omega arith
count_most n few (fixpoint fam q a b) = few

module _ (n : ℕ) where
  -- those of one node more
  counts_next : (xs : List Node) (i : ℕ) (d : Node) → i < length xs
      → row_counts n (take (suc i) xs) ≡ row_counts n (take i xs) + row_count n (operator_of (get_or xs i d))
  unfolding row_counts
  counts_next [] i d h = absurd (omega arith)
  counts_next (x ∷ xs) zero d h = omega arith
  counts_next (x ∷ xs) (suc i) d h = let rest = counts_next xs i d (omega arith) in omega arith

  -- more nodes have no fewer
  counts_up : (xs : List Node) (j k : ℕ) → j ≤ k → row_counts n (take j xs) ≤ row_counts n (take k xs)
  unfolding row_counts
  counts_up xs zero k h = zero-le
  counts_up xs (suc j) zero h = absurd (omega arith)
  counts_up [] (suc j) (suc k) h = zero-le
  counts_up (x ∷ xs) (suc j) (suc k) h = let rest = counts_up xs j k (omega arith) in omega arith

module _ (T : Table) where
  up : (i j : ℕ) → i ≤ j → first_word T i ≤ first_word T j
  up i j h = omega (arith, counts_up (length T.states) T.nodes i j h)

  -- those of the next node begin where those of this one end
  pub first_next : (i : ℕ) → i < length T.nodes
      → first_word T (suc i) ≡ first_word T i + row_count (length T.states) (operator_of (node_at T i))
  first_next i h = omega (arith, counts_next (length T.states) T.nodes i zero_node h)

  -- past the last node all lie before
  pub first_last : (i : ℕ) → length T.nodes ≤ i → first_word T i ≡ word_total T
  first_last i h = ap (λ (xs : List Node). 1 + row_counts (length T.states) xs) (take_all i T.nodes h)

  -- those of a node end before those of a later one
  pub first_before : (i j : ℕ) → i < j → j < length T.nodes
      → first_word T i + row_count (length T.states) (operator_of (node_at T i)) ≤ first_word T j
  first_before i j l h = omega (arith, first_next i (omega (arith, l, h)), up (suc i) j (omega (arith, l)))

  -- and all of them before the end
  pub cells_in : (i : ℕ) → i < length T.nodes
      → first_word T i + row_count (length T.states) (operator_of (node_at T i)) ≤ word_total T
  cells_in i h = omega (
    arith,
    first_next i h,
    up (suc i) (length T.nodes) (omega (arith, h)),
    first_last (length T.nodes) (omega arith),
  )

  -- the places rise
  pub firsts_rise : (first : List ℕ) → AreFirsts T first → Rising first
  firsts_rise first a = record {
    starts = omega (arith, a.at 0 (omega arith));
    rises = λ i h. omega (
      arith,
      a.at i (omega (arith, h)),
      a.at (suc i) (omega (arith, h)),
      up i (suc i) (omega arith),
    );
  }
