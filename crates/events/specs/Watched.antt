-- What is looked at again. A cell is K at a state, a node without levels at a state, or a level of a fixed point over
-- the one below it at a state. Each row of cells has a word in `looks`: the states at which it is to be looked at.
-- That of K is at 0, those of node i from `first_word` on. What stays true is that a cell that is not in its word is
-- at rest. A cell at rest stays so while what it reads stays; whatever changes that puts the cell into its word.
use Rattle.std.specs.Prelude.{ℕ, suc, ◌+◌, ◌<◌, ◌≡◌, true, false, List, length, get_or}
use Rattle.sets.specs.Member.{member}
use Rattle.table.specs.Table.{Table, node_at}
use Rattle.table.specs.Rows.{target_set}
use Rattle.ctl.specs.Rule.{Operator, constant, atom, negation, conjunction, disjunction, next, fixpoint, operator_of}
use Rattle.rows.specs.Row.{Within, ClearAt}
use Rattle.readers.specs.declared.who_reads.TheConstants.{KEPT_WORD}
use Rattle.readers.specs.Reads.{is_child, has_levels, reads_steps, AgreeAt, AgreeOn}
use Rattle.readers.specs.Readers.{row_count, first_word}
use Rattle.closure.specs.Knowledge.{Knowledge}
use Rattle.closure.specs.Rest.{RestKept, RestLevel, RestNode}

-- ---- what a cell reads is the same in two states of the memory

module _ (T : Table) (K K' : Knowledge) where
  -- K at state s reads the steps out of s, and K at s and at their ends
  pub record SameKept (s : ℕ) : Type 0 where
    pub steps : K'.steps s ≡ K.steps s
    pub own : AgreeAt s K.kept K'.kept
    pub ends : AgreeOn (target_set T.steps s) K.kept K'.kept

  -- row m of the cells of node i, whose operator is given, at state s. A node without levels reads its own row there,
  -- its children there and at the ends of the steps out of s, and where it reads steps those. A level reads its own
  -- row and its children there, the steps, and at the ends the level below.
  pub record SameCell (i m : ℕ) (o : Operator) (s : ℕ) : Type 0 where
    pub own : has_levels o ≡ false → AgreeAt s (K.nodes i) (K'.nodes i)
    pub child : (c : ℕ) → is_child o c ≡ true → AgreeAt s (K.nodes c) (K'.nodes c)
    pub ends : has_levels o ≡ false → (c : ℕ) → is_child o c ≡ true
        → AgreeOn (target_set T.steps s) (K.nodes c) (K'.nodes c)
    pub steps : reads_steps o ≡ true → K'.steps s ≡ K.steps s
    pub levels : has_levels o ≡ true
        → AgreeAt s (K.levels i (suc m)) (K'.levels i (suc m))
        × AgreeOn (target_set T.steps s) (K.levels i m) (K'.levels i m)

-- bits only come
pub record More (K K' : Knowledge) : Type 0 where
  pub kept : Within K.kept K'.kept
  pub nodes : (i : ℕ) → Within (K.nodes i) (K'.nodes i)
  pub levels : (i m : ℕ) → Within (K.levels i m) (K'.levels i m)

-- ---- what stays true

module _ (T : Table) (K : Knowledge) where
  -- a node at rest at s, and known one way there
  abbrev pub RestPlain : ℕ → Operator → ℕ → Type 0
  RestPlain i o s = RestNode T K i o s × ClearAt s (K.nodes i)

  -- row m of the cells of node i, whose operator is given, at rest at s
  abbrev pub RestCell : ℕ → ℕ → Operator → ℕ → Type 0
  RestCell i m (constant b) s = RestPlain i (constant b) s
  RestCell i m (atom p) s = RestPlain i (atom p) s
  RestCell i m (negation a) s = RestPlain i (negation a) s
  RestCell i m (conjunction a b) s = RestPlain i (conjunction a b) s
  RestCell i m (disjunction a b) s = RestPlain i (disjunction a b) s
  RestCell i m (next q a) s = RestPlain i (next q a) s
  RestCell i m (fixpoint fam q a b) s = RestLevel T K fam q a b (K.levels i (suc m)) (K.levels i m) s

module _ (T : Table) (looks : List ℕ) where
  -- the row of cells has no state s in its word
  abbrev pub NotIn : ℕ → ℕ → ℕ → Type 0
  NotIn i m s = member (get_or looks (first_word T i + m) 0) s ≡ false

  pub record Watched (K : Knowledge) : Type 0 where
    pub kept : (s : ℕ) → s < length T.states → member (get_or looks KEPT_WORD 0) s ≡ false → RestKept T K s
    pub nodes : (i m : ℕ) → i < length T.nodes → m < row_count (length T.states) (operator_of (node_at T i)) → (s : ℕ)
        → s < length T.states → NotIn i m s
        → RestCell T K i m (operator_of (node_at T i)) s

  -- what differs between two states of the memory is read by no cell that is not in its word
  pub record Noted (K K' : Knowledge) : Type 0 where
    pub kept : (s : ℕ) → s < length T.states → member (get_or looks KEPT_WORD 0) s ≡ false → SameKept T K K' s
    pub nodes : (i m : ℕ) → i < length T.nodes → m < row_count (length T.states) (operator_of (node_at T i)) → (s : ℕ)
        → s < length T.states → NotIn i m s
        → SameCell T K K' i m (operator_of (node_at T i)) s

-- ---- before a closure and after it

-- all cells are at rest but those that read the steps out of a state of the set
pub record RestBut (T : Table) (set : ℕ) (K : Knowledge) : Type 0 where
  pub kept : (s : ℕ) → s < length T.states → member set s ≡ false → RestKept T K s
  pub nodes : (i : ℕ) → i < length T.nodes → (s : ℕ) → s < length T.states
      → (reads_steps (operator_of (node_at T i)) ≡ true → member set s ≡ false)
      → RestNode T K i (operator_of (node_at T i)) s × ClearAt s (K.nodes i)
