-- The readers of a change are in their words, and no state leaves a word.
use Rattle.std.specs.Prelude.{ℕ, suc, ◌+◌, ◌-◌, ◌≡◌, true, List, length, get_or}
use Rattle.sets.specs.Member.{member}
use Rattle.readers.specs.declared.who_reads.TheConstants.{KEPT_WORD, NODE_READERS, STEP_READERS}
use Rattle.readers.specs.declared.who_reads.Readers.{Readers}
use Rattle.readers.specs.Readers.{OfNode}

-- no state leaves its word
pub record Raised (looks looks' : List ℕ) : Type 0 where
  pub same_length : length looks' ≡ length looks
  pub stays : (k s : ℕ) → member (get_or looks k 0) s ≡ true → member (get_or looks' k 0) s ≡ true

module _ (r : Readers) (looks : List ℕ) where
  -- of the row of node c at state t: the last row of its own cells there, all cells there of the nodes with the child
  -- c, and their first at each state with a step into t
  pub record NodeMarked (c t : ℕ) : Type 0 where
    pub own : member (get_or looks (get_or r.first (suc c) 0 - 1) 0) t ≡ true
    pub here : (i k : ℕ) → member (get_or r.of (NODE_READERS + c) 0) i ≡ true → OfNode r i k
        → member (get_or looks k 0) t ≡ true
    pub behind : (i s : ℕ) → member (get_or r.of (NODE_READERS + c) 0) i ≡ true → OfNode r i (get_or r.first i 0)
        → member (get_or r.of t 0) s ≡ true
        → member (get_or looks (get_or r.first i 0) 0) s ≡ true

  -- of the row of K at state t: K there, and at each state with a step into t
  pub record KeptMarked (t : ℕ) : Type 0 where
    pub here : member (get_or looks KEPT_WORD 0) t ≡ true
    pub behind : (s : ℕ) → member (get_or r.of t 0) s ≡ true → member (get_or looks KEPT_WORD 0) s ≡ true

  -- of the steps out of state s: K there, and all cells there of the nodes that read steps
  pub record StepsMarked (s : ℕ) : Type 0 where
    pub kept : member (get_or looks KEPT_WORD 0) s ≡ true
    pub nodes : (i k : ℕ) → member (get_or r.of STEP_READERS 0) i ≡ true → OfNode r i k
        → member (get_or looks k 0) s ≡ true

  -- of the row of a stored level at state t, by its word: the level there, and the one over it at each state with a
  -- step into t
  pub record LevelMarked (k t : ℕ) : Type 0 where
    pub own : member (get_or looks k 0) t ≡ true
    pub behind : (s : ℕ) → member (get_or r.of t 0) s ≡ true → member (get_or looks (suc k) 0) s ≡ true
