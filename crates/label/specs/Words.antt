-- Labels on machine words: a set of states is a number, its bits the states. `rows` has the set of kept next states
-- of each state.
use Rattle.std.specs.Prelude.{ℕ, zero, suc, ◌-◌, ◌<◌, Bool, true, false, not, ◌&&◌, List, [], ◌∷◌, eqb, get_or, set}
use Rattle.std.specs.Int.Bits.{bit_and, bit_or}
use Rattle.sets.specs.Member.{member, set_of}
use Rattle.table.specs.declared.operator.Family.{Family}
use Rattle.table.specs.declared.operator.Family.TheVariants.{Release, Until, Eventually, Always}
use Rattle.table.specs.declared.record.Node.{Node}
use Rattle.table.specs.StateSets.{labelled_word}
use Rattle.table.specs.Accept.{all}
use Rattle.ctl.specs.Rule.{
  Quantifier,
  every,
  some,
  Operator,
  constant,
  atom,
  negation,
  conjunction,
  disjunction,
  next,
  fixpoint,
  operator_of,
}
use Rattle.ctl.specs.Range.{below}

-- all 32 bits
abbrev pub full : ℕ
full = 4294967295

-- AX or EX of X at a state with this row
abbrev pub row_next : Quantifier → ℕ → ℕ → Bool
row_next every row X = not (eqb row 0) && eqb (bit_and row (full - X)) 0
row_next some row X = not (eqb (bit_and row X) 0)

-- the states below n at which it holds
unfoldable pub next_word : Quantifier → List ℕ → ℕ → ℕ → ℕ
next_word q rows n X = set_of n (λ s. row_next q (get_or rows s 0) X)

-- what a level joins, by its family
abbrev pub join_word : Family → ℕ → ℕ → ℕ → ℕ
join_word Release A B X = bit_and B (bit_or A X)
join_word Until A B X = bit_or B (bit_and A X)
join_word Eventually A B X = bit_or B X
join_word Always A B X = bit_and B X

-- one level from the level below, and level m from level 0, the set of b
abbrev pub level_word : Family → Quantifier → List ℕ → ℕ → ℕ → ℕ → ℕ → ℕ
level_word f q rows n A B X = join_word f A B (next_word q rows n X)

unfoldable pub levels_word : Family → Quantifier → List ℕ → ℕ → ℕ → ℕ → ℕ → ℕ
levels_word f q rows n A B zero = B
levels_word f q rows n A B (suc m) = level_word f q rows n A B (levels_word f q rows n A B m)

-- the kept states, those with a next state
abbrev pub kept_word : List ℕ → ℕ → ℕ
kept_word rows n = set_of n (λ s. not (eqb (get_or rows s 0) 0))

-- every next state of every state is kept
abbrev pub total_rows : List ℕ → ℕ → Bool
total_rows rows kept = all (λ s. eqb (set_of 32 (λ t. member (get_or rows s 0) t && not (member kept t))) 0) (below 32)

-- each child has a number below m
abbrev pub ChildrenBelow : ℕ → Operator → Type 0
ChildrenBelow m (constant b) = Unit
ChildrenBelow m (atom p) = Unit
ChildrenBelow m (negation a) = a < m
ChildrenBelow m (conjunction a b) = (a < m) × (b < m)
ChildrenBelow m (disjunction a b) = (a < m) × (b < m)
ChildrenBelow m (next q a) = a < m
ChildrenBelow m (fixpoint f q a b) = (a < m) × (b < m)

module _ (rows : List ℕ) (kept n : ℕ) (states : List ℕ) where
  -- the set of a node, from the sets of the nodes before it
  unfoldable pub node_word : List ℕ → Operator → ℕ
  node_word words (constant false) = 0
  node_word words (constant true) = kept
  node_word words (atom p) = bit_and kept (labelled_word states n p)
  node_word words (negation a) = bit_and kept (full - get_or words a 0)
  node_word words (conjunction a b) = bit_and (get_or words a 0) (get_or words b 0)
  node_word words (disjunction a b) = bit_or (get_or words a 0) (get_or words b 0)
  node_word words (next q a) = next_word q rows n (get_or words a 0)
  node_word words (fixpoint f q a b) = levels_word f q rows n (get_or words a 0) (get_or words b 0) n

  -- the pass over the nodes from number i on
  unfoldable pub pass_words : ℕ → List Node → List ℕ → List ℕ
  pass_words i [] words = words
  pass_words i (x ∷ xs) words = pass_words (suc i) xs (set words i (node_word words (operator_of x)))
