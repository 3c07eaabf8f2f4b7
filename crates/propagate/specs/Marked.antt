-- What comes to a row has its readers in their words.
use Rattle.std.specs.Prelude.{ℕ, suc, ◌+◌, ◌*◌, ◌-◌, ◌≤◌, ◌<◌, ◌≡◌, true, ◌⊎◌, List, length, get_or}
use Rattle.sets.specs.Member.{member}
use Rattle.table.specs.declared.limits.TheConstants.{MOST_STATES, MOST_NODES}
use Rattle.rows.specs.declared.row.Row.{Row}
use Rattle.rows.specs.Words.{row_at, step_place}
use Rattle.readers.specs.declared.who_reads.Readers.{Readers}
use Rattle.readers.specs.Reads.{AgreeAt}
use Rattle.readers.specs.Marked.{Raised, NodeMarked, KeptMarked, StepsMarked, LevelMarked}
use Rattle.propagate.specs.declared.adding.RowOf.{RowOf}
use Rattle.propagate.specs.declared.adding.RowOf.TheVariants.{Steps, Node, Kept, Level}
use Rattle.propagate.specs.declared.level.Fixpoint.{Fixpoint}
use Rattle.propagate.specs.Memory.{node_place, kept_place}

-- a row has a word to be looked at by; a level has the next one too
abbrev pub HasWord : List ℕ → RowOf → Type 0
HasWord looks (Steps s) = s < MOST_STATES
HasWord looks (Node c) = c < MOST_NODES
HasWord looks Kept = Unit {0}
HasWord looks (Level k) = suc k < length looks

module _ (r : Readers) (looks : List ℕ) where
  -- the readers of a row at the states of a set are in their words; of a row of steps, whatever its ends
  abbrev pub ReadersMarked : RowOf → ℕ → Type 0
  ReadersMarked (Steps s) set = StepsMarked r looks s
  ReadersMarked (Node c) set = (t : ℕ) → member set t ≡ true → NodeMarked r looks c t
  ReadersMarked Kept set = (t : ℕ) → member set t ≡ true → KeptMarked r looks t
  ReadersMarked (Level k) set = (t : ℕ) → member set t ≡ true → LevelMarked r looks k t

  -- an old row and a new one agree at each state, or the readers there are in their words
  abbrev pub RowMarked : RowOf → Row → Row → Type 0
  RowMarked (Steps s) old new = (new ≡ old) ⊎ StepsMarked r looks s
  RowMarked (Node c) old new = (t : ℕ) → AgreeAt t old new ⊎ NodeMarked r looks c t
  RowMarked Kept old new = (t : ℕ) → AgreeAt t old new ⊎ KeptMarked r looks t
  RowMarked (Level k) old new = (t : ℕ) → AgreeAt t old new ⊎ LevelMarked r looks k t

-- of all rows of steps, of nodes and of K
pub record RowsMarked (r : Readers) (looks looks' rows rows' : List ℕ) : Type 0 where
  pub raised : Raised looks looks'
  pub steps : (s : ℕ) → s < MOST_STATES
      → RowMarked r looks' (Steps s) (row_at rows (step_place s)) (row_at rows' (step_place s))
  pub nodes : (c : ℕ) → c < MOST_NODES
      → RowMarked r looks' (Node c) (row_at rows (node_place c)) (row_at rows' (node_place c))
  pub kept : RowMarked r looks' Kept (row_at rows kept_place) (row_at rows' kept_place)

-- of all stored levels of a fixed point, levels 1 to n - 1; no other word of levels has changed
pub record LevelsMarked (r : Readers) (n : ℕ) (x : Fixpoint) (looks looks' words words' : List ℕ) : Type 0 where
  pub raised : Raised looks looks'
  pub levels : (m : ℕ) → suc m < n
      → RowMarked r looks' (Level (x.word + m)) (row_at words (x.base + 2 * m)) (row_at words' (x.base + 2 * m))
  pub elsewhere : (k : ℕ) → (k < x.base) ⊎ (x.base + 2 * (n - 1) ≤ k) → get_or words' k 0 ≡ get_or words k 0
