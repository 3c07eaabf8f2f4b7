-- Going back from N at the states below k, one after the other: what the step rows, the row of the ends and the
-- report then are.
use Rattle.std.specs.Prelude.{ℕ, zero, suc, true, false, List, get_or}
use Rattle.rows.specs.declared.row.Row.{Row}
use Rattle.rows.specs.declared.row.Report.{Report}
use Rattle.rows.specs.declared.next.Pushed.{Pushed}
use Rattle.rows.specs.Row.{known, union}
use Rattle.rows.specs.Rules.{row}
use Rattle.rows.specs.Pushed.{pushed}
use Rattle.rows.specs.Words.{row_at, row_added, report_of, both_reports, step_place}

abbrev pub quiet_report : Report
quiet_report = record { changed = false; fails = false }

module _ (targets : List ℕ) (ahead end : Row) where
  -- what state s adds, with the step rows as given
  abbrev pub pushed_at : List ℕ → ℕ → Pushed
  pushed_at rows s =
      pushed (get_or targets s 0) (row_at rows (step_place s)) end (known ahead true s) (known ahead false s)

  unfoldable pub back_rows : List ℕ → ℕ → List ℕ
  back_rows rows zero = rows
  back_rows rows (suc k) = row_added (back_rows rows k) (step_place k) (pushed_at (back_rows rows k) k).steps

  unfoldable pub back_row : List ℕ → ℕ → Row
  back_row rows zero = row 0 0
  back_row rows (suc k) = union (back_row rows k) (pushed_at (back_rows rows k) k).end

  unfoldable pub back_report : List ℕ → ℕ → Report
  back_report rows zero = quiet_report
  back_report rows (suc k) = both_reports (back_report rows k)
      (report_of (back_rows rows k) (step_place k) (pushed_at (back_rows rows k) k).steps)
