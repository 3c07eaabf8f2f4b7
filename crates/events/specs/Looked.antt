-- What looking at cells does, by the words of the states to look at before and after it.
use Rattle.std.specs.Prelude.{ℕ, ◌+◌, ◌≤◌, ◌<◌, ◌≡◌, true, false, ◌⊎◌, List, Option, None, Some, length, get_or}
use Rattle.sets.specs.Member.{member}
use Rattle.table.specs.Table.{Table, node_at}
use Rattle.ctl.specs.Rule.{operator_of}
use Rattle.table.specs.declared.limits.TheConstants.{MOST_STATES}
use Rattle.rows.specs.declared.row.Report.{Report}
use Rattle.propagate.specs.Memory.{Memory}
use Rattle.readers.specs.declared.who_reads.TheConstants.{KEPT_WORD}
use Rattle.readers.specs.declared.who_reads.Readers.{Readers}
use Rattle.readers.specs.Readers.{row_count, first_word, words_end}
use Rattle.readers.specs.Marked.{StepsMarked}
use Rattle.closure.specs.Knowledge.{Knowledge, knowledge}
use Rattle.closure.specs.Advance.{Founded, Advance}
use Rattle.closure.specs.Rest.{RestKept}
use Rattle.events.specs.Watched.{Watched}

-- nothing is said
abbrev pub Always : Knowledge → Type 0
Always K = Unit {0}

-- at first every word has all states; or, where the steps out of a set of states have changed, those that read them
abbrev pub FirstLooks : Readers → Option ℕ → List ℕ → Type 0
FirstLooks readers None looks = (k s : ℕ) → k < words_end readers → s < MOST_STATES → member (get_or looks k 0) s ≡ true
FirstLooks readers (Some set) looks = (s : ℕ) → member set s ≡ true → StepsMarked readers looks s

-- K was looked at, at the states of a set
abbrev pub KeptAlone : Table → ℕ → Memory → Memory → Report → Type 0
KeptAlone T look before after r =
    Advance T (λ K. (s : ℕ) → s < length T.states → member look s ≡ true → RestKept T K s) before after r

-- ---- words

module _ (T : Table) where
  -- of node i
  abbrev pub CellsOf : ℕ → ℕ → Type 0
  CellsOf i k = (first_word T i ≤ k) × (k < first_word T i + row_count (length T.states) (operator_of (node_at T i)))

  -- of all nodes
  abbrev pub NodeCells : ℕ → Type 0
  NodeCells k = (i : ℕ) × (i < length T.nodes) × CellsOf i k

  -- and of K
  abbrev pub AllCells : ℕ → Type 0
  AllCells k = (k ≡ KEPT_WORD) ⊎ NodeCells k

-- ---- cells were looked at

-- It advances. A cell that is not in its word is at rest still. Where nothing was added, no word got a state, and
-- those of `Done` have none.
pub record Looked (T : Table) (Done : ℕ → Type 0) (Quiet : Knowledge
    → Type 0) (looks looks' : List ℕ) (before after : Memory) (r : Report) : Type 0 where
  pub advance : Advance T Quiet before after r
  pub size : length looks' ≡ length looks
  pub watched : r.fails ≡ false → Founded T before → Watched T looks (knowledge T before)
      → Watched T looks' (knowledge T after)
  pub still : r.changed ≡ false → r.fails ≡ false → (k : ℕ) → get_or looks k 0 ≡ 0 → get_or looks' k 0 ≡ 0
  pub done : r.changed ≡ false → r.fails ≡ false → (k : ℕ) → Done k → get_or looks' k 0 ≡ 0
