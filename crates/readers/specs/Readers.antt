-- Who reads what: at t the states with a step into t, from `NODE_READERS` on the nodes with each child, and at
-- `STEP_READERS` the nodes that read steps. More may stand there: then more is looked at than has to be. And where
-- the words of the states to look at lie: one for K, and behind it those of each node, one for each row of its cells,
-- which are its levels, or one row where it has none.
use Rattle.std.specs.Prelude.{ℕ, suc, ◌+◌, ◌≤◌, ◌<◌, ◌≡◌, true, List, [], ◌∷◌, length, get_or, take}
use Rattle.std.specs.Int.Bits.{bit_or}
use Rattle.sets.specs.Member.{member}
use Rattle.table.specs.Table.{Table, node_at}
use Rattle.table.specs.declared.record.Node.{Node}
use Rattle.table.specs.Rows.{target_set}
use Rattle.ctl.specs.Rule.{Operator, constant, atom, negation, conjunction, disjunction, next, fixpoint, operator_of}
use Rattle.table.specs.declared.limits.TheConstants.{MOST_NODES}
use Rattle.rows.specs.declared.row.Row.{Row}
use Rattle.rows.specs.Rules.{new_of}
use Rattle.readers.specs.declared.who_reads.TheConstants.{NODE_READERS, STEP_READERS, READER_PLACES, FIRST_PLACES}
use Rattle.readers.specs.declared.who_reads.Readers.{Readers}
use Rattle.readers.specs.Reads.{is_child, reads_steps}

-- ---- where the words lie

-- how many rows of cells a node has, with n states
abbrev pub row_count : ℕ → Operator → ℕ
row_count n (constant b) = 1
row_count n (atom p) = 1
row_count n (negation a) = 1
row_count n (conjunction a b) = 1
row_count n (disjunction a b) = 1
row_count n (next q a) = 1
row_count n (fixpoint fam q a b) = n

unfoldable pub row_counts : ℕ → List Node → ℕ
row_counts n [] = 0
row_counts n (x ∷ xs) = row_count n (operator_of x) + row_counts n xs

-- where the words of node i begin, and how many words there are
abbrev pub first_word : Table → ℕ → ℕ
first_word T i = 1 + row_counts (length T.states) (take i T.nodes)

abbrev pub word_total : Table → ℕ
word_total T = 1 + row_counts (length T.states) T.nodes

pub record AreFirsts (T : Table) (first : List ℕ) : Type 0 where
  pub size : length first ≡ FIRST_PLACES
  pub at : (i : ℕ) → i ≤ MOST_NODES → get_or first i 0 ≡ first_word T i

module _ (r : Readers) where
  -- word k is one of those of node i
  abbrev pub OfNode : ℕ → ℕ → Type 0
  OfNode i k = (get_or r.first i 0 ≤ k) × (k < get_or r.first (suc i) 0)

  -- where all words end
  abbrev pub words_end : ℕ
  words_end = get_or r.first MOST_NODES 0

-- ---- who reads what

pub record AreReaders (T : Table) (r : Readers) : Type 0 where
  pub size : length r.of ≡ READER_PLACES
  pub of_state : (s t : ℕ) → s < length T.states → member (target_set T.steps s) t ≡ true
      → member (get_or r.of t 0) s ≡ true
  pub of_node : (i c : ℕ) → i < length T.nodes → is_child (operator_of (node_at T i)) c ≡ true
      → member (get_or r.of (NODE_READERS + c) 0) i ≡ true
  pub of_steps : (i : ℕ) → i < length T.nodes → reads_steps (operator_of (node_at T i)) ≡ true
      → member (get_or r.of STEP_READERS 0) i ≡ true
  pub firsts : AreFirsts T r.first

-- the states of which the new row knows something that the old one does not
abbrev pub grown : Row → Row → ℕ
grown old new = bit_or (new_of new old).yes (new_of new old).no
