-- The memory of a closure, and rules applied to it one after the other. `rows` has the rows of the steps out of each
-- state, of each node and of K, of two words each; `words` has those of the levels.
use Rattle.std.specs.Prelude.{ℕ, ◌+◌, ◌*◌, Bool, false, cond, List, get_or}
use Rattle.rows.specs.declared.row.Row.{Row}
use Rattle.rows.specs.declared.row.Report.{Report}
use Rattle.rows.specs.Row.{turn}
use Rattle.rows.specs.Rules.{is_none, ahead_at}
use Rattle.rows.specs.Words.{row_at, row_added, report_of, both_reports, step_place}
use Rattle.propagate.specs.declared.layout.TheConstants.{NODE_ROWS, KEPT_PLACE}
use Rattle.propagate.specs.Back.{back_rows, back_row, back_report}

pub record Memory : Type 0 where
  pub rows : List ℕ
  pub words : List ℕ

-- where the rows of node i and of K lie
abbrev pub node_place : ℕ → ℕ
node_place i = NODE_ROWS + 2 * i

abbrev pub kept_place : ℕ
kept_place = KEPT_PLACE

-- ---- one thing after the other

-- the memory as it is left, and what was done to it
pub record Stepped : Type 0 where
  pub memory : Memory
  pub report : Report

abbrev pub memory : List ℕ → List ℕ → Memory
memory rows words = record { rows = rows; words = words }

abbrev pub stepped : List ℕ → List ℕ → Report → Stepped
stepped rows words r = record { memory = memory rows words; report = r }

-- nothing is done; it has failed if so
abbrev pub failing : Bool → Memory → Stepped
failing f M = record { memory = M; report = record { changed = false; fails = f } }

infixl 20 ◌and_then◌
abbrev pub ◌and_then◌ : Stepped → (Memory → Stepped) → Stepped
s and_then f = record { memory = (f s.memory).memory; report = both_reports s.report (f s.memory).report }

-- what a row knows added to the row at a place, of the rows and of the words
abbrev pub add_row : ℕ → Row → Memory → Stepped
add_row at x M = record { memory = memory (row_added M.rows at x) M.words; report = report_of M.rows at x }

-- to the row of the steps out of s
abbrev pub add_step : ℕ → Row → Memory → Stepped
add_step s x M = record {
  memory = memory (row_added M.rows (step_place s) x) M.words;
  report = report_of M.rows (step_place s) x;
}

abbrev pub add_word : ℕ → Row → Memory → Stepped
add_word at x M = record { memory = memory M.rows (row_added M.words at x); report = report_of M.words at x }

abbrev pub node_row : Memory → ℕ → Row
node_row M i = row_at M.rows (node_place i)

-- ---- the steps out of the states

-- N over a row of ends, at the states of a set
abbrev pub ahead_in : List ℕ → ℕ → Bool → Row → Memory → Row
ahead_in targets set e end M =
    turn e (ahead_at (λ s. get_or targets s 0) (λ s. row_at M.rows (step_place s)) set (turn e end))

module _ (targets : List ℕ) (n : ℕ) where
  -- back from N to the steps, and to the row of the ends by `add_end`
  abbrev pub go_back : Bool → Row → Row → (Row → Memory → Stepped) → Memory → Stepped
  go_back e ahead end add_end M =
      (record {
        memory = memory (back_rows targets (turn e ahead) (turn e end) M.rows n) M.words;
        report = back_report targets (turn e ahead) (turn e end) M.rows n;
      })
      and_then add_end (turn e (back_row targets (turn e ahead) (turn e end) M.rows n))

  -- the same, where there is something to take back
  abbrev pub go_back_more : Bool → Row → Row → (Row → Memory → Stepped) → Memory → Stepped
  go_back_more e more end add_end M = cond (is_none more) (failing false M) (go_back e more end add_end M)
