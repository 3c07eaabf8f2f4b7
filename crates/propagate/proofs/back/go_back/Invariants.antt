-- `go_back` meets its contract: after the states below s, the rows, the row of the ends and the report are those of
-- `back_rows`, `back_row` and `back_report` at s, and what was added is marked.
use mathlib.Core.Path.{◌≡◌}
use mathlib.Core.Bool.{false}
use Rattle.propagate.specs.Back.{back_rows, back_row, back_report}
use Rattle.propagate.specs.Marked.{RowsMarked}
use Rattle.propagate.proofs.back.go_back.Given as goal

abbrev pub invariant-loop-s : goal.invariant-loop-s
invariant-loop-s l = record {
  rows : l.rows ≡ back_rows l.graph.targets l.ahead l.end l.initial.rows l.s;
  end : l.back.end ≡ back_row l.graph.targets l.ahead l.end l.initial.rows l.s;
  report : l.back.report ≡ back_report l.graph.targets l.ahead l.end l.initial.rows l.s;
  marked : RowsMarked l.graph.readers l.initial.looks l.looks l.initial.rows l.rows;
  calm : l.back.report.changed ≡ false → l.looks ≡ l.initial.looks;
}
