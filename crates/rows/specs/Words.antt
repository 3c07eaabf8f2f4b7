-- Rows in a list of words: row k is the words at 2 k and 2 k + 1.
use Rattle.std.specs.Prelude.{ℕ, ◌+◌, ◌*◌, ◌<◌, ◌^◌, Bool, not, ◌||◌, List, eqb, get_or, set}
use Rattle.rows.specs.declared.row.Row.{Row}
use Rattle.rows.specs.declared.row.Report.{Report}
use Rattle.rows.specs.Row.{union, clashes}

abbrev pub row_at : List ℕ → ℕ → Row
row_at ws at = record { yes = get_or ws at 0; no = get_or ws (at + 1) 0 }

-- with what x knows added to the row at a place
abbrev pub row_added : List ℕ → ℕ → Row → List ℕ
row_added ws at x = set (set ws at (union (row_at ws at) x).yes) (at + 1) (union (row_at ws at) x).no

-- whether that added a bit, and whether something is now known both ways
abbrev pub report_of : List ℕ → ℕ → Row → Report
report_of ws at x = record {
  changed = not (eqb (union (row_at ws at) x).yes (get_or ws at 0))
      || not (eqb (union (row_at ws at) x).no (get_or ws (at + 1) 0));
  fails = clashes (union (row_at ws at) x);
}

-- the row of the steps out of s is row s
abbrev pub step_place : ℕ → ℕ
step_place s = 2 * s

abbrev pub both_reports : Report → Report → Report
both_reports a b = record { changed = a.changed || b.changed; fails = a.fails || b.fails }

-- nothing was added, and nothing is known both ways
abbrev pub quiet : Report → Bool
quiet r = not (r.changed || r.fails)

-- the words of a row are machine words
abbrev pub SmallRow : Row → Type 0
SmallRow r = (r.yes < 2 ^ 32) × (r.no < 2 ^ 32)
