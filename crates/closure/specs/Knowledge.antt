-- What the memory knows of the variables of a table. The words have the rows of the levels 1 to n - 1 of each
-- fixed-point node, one node after the other; level 0 is b's row, and level n the node's own.
use Rattle.std.specs.Prelude.{ℕ, ◌+◌, ◌*◌, ◌-◌, ◌≤◌, ◌<◌, ◌^◌, ◌≡◌, cond, List, [], ◌∷◌, eqb, length, get_or, take}
use Rattle.table.specs.Table.{Table, node_at}
use Rattle.table.specs.declared.record.Node.{Node}
use Rattle.ctl.specs.Rule.{Operator, constant, atom, negation, conjunction, disjunction, next, fixpoint, operator_of}
use Rattle.rows.specs.declared.row.TheConstants.{ROW_WORDS}
use Rattle.rows.specs.declared.row.Row.{Row}
use Rattle.rows.specs.Words.{row_at, SmallRow, step_place}
use Rattle.propagate.specs.Memory.{Memory, node_place, kept_place}

-- how many words the stored levels of a node take, and where those of node i begin
abbrev pub level_size : ℕ → Operator → ℕ
level_size n (constant b) = 0
level_size n (atom p) = 0
level_size n (negation a) = 0
level_size n (conjunction a b) = 0
level_size n (disjunction a b) = 0
level_size n (next q a) = 0
level_size n (fixpoint fam q a b) = 2 * (n - 1)

unfoldable pub level_sizes : ℕ → List Node → ℕ
level_sizes n [] = 0
level_sizes n (x ∷ xs) = level_size n (operator_of x) + level_sizes n xs

abbrev pub level_base : Table → ℕ → ℕ
level_base T i = level_sizes (length T.states) (take i T.nodes)

-- all of them
abbrev pub level_total : Table → ℕ
level_total T = level_sizes (length T.states) T.nodes

-- ---- what is known, by variable

-- the steps out of a state by their ends, K, X of each node, and each level of a fixed-point node, by state
pub record Knowledge : Type 0 where
  pub steps : ℕ → Row
  pub kept : Row
  pub nodes : ℕ → Row
  pub levels : ℕ → ℕ → Row

-- its rows are of machine words
pub record Small (K : Knowledge) : Type 0 where
  pub steps : (s : ℕ) → SmallRow (K.steps s)
  pub kept : SmallRow K.kept
  pub nodes : (i : ℕ) → SmallRow (K.nodes i)
  pub levels : (i m : ℕ) → SmallRow (K.levels i m)

-- the second child of a fixed-point node
abbrev pub second_child : Operator → ℕ
second_child (constant b) = 0
second_child (atom p) = 0
second_child (negation a) = 0
second_child (conjunction a b) = 0
second_child (disjunction a b) = 0
second_child (next q a) = 0
second_child (fixpoint fam q a b) = b

-- level m of node i, whose second child is b
abbrev pub level_row : Table → Memory → ℕ → ℕ → ℕ → Row
level_row T M i b m = cond (eqb m 0) (row_at M.rows (node_place b))
    (cond (eqb m (length T.states)) (row_at M.rows (node_place i)) (row_at M.words (level_base T i + 2 * (m - 1))))

abbrev pub knowledge : Table → Memory → Knowledge
knowledge T M = record {
  steps = λ s. row_at M.rows (step_place s);
  kept = row_at M.rows kept_place;
  nodes = λ i. row_at M.rows (node_place i);
  levels = λ i m. level_row T M i (second_child (operator_of (node_at T i))) m;
}

-- the memory has the size that the rows need, and its entries are words
pub record Sized (T : Table) (M : Memory) : Type 0 where
  pub rows_size : length M.rows ≡ ROW_WORDS
  pub words_size : level_total T ≤ length M.words
  pub small_rows : (k : ℕ) → get_or M.rows k 0 < 2 ^ 32
  pub small_words : (k : ℕ) → get_or M.words k 0 < 2 ^ 32

-- the sum of all words, which grows with each bit that is added
unfoldable pub sum : List ℕ → ℕ
sum [] = 0
sum (x ∷ xs) = x + sum xs

abbrev pub total : Memory → ℕ
total M = sum M.rows + sum M.words
