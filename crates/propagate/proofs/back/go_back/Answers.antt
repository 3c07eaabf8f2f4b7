-- `go_back` meets its contract: after the states below s, the rows, the row of the ends and the report are those of
-- `back_rows`, `back_row` and `back_report` at s.
use Prim.Native.Nat.{ℕ, ◌+◌}
use mathlib.Core.Path.{◌≡◌, sym, ap, ◌∙◌}
use mathlib.Core.Bool.{true, false}
use mathlib.Core.List.{List}
use native.Mathlib.Numerals.{add-one}
use lib.ListN.{get_or}
use Rattle.std.proofs.Common.{rules}
use Rattle.rows.specs.declared.row.Row.{Row}
use Rattle.rows.specs.declared.row.Report.{Report}
use Rattle.rows.specs.declared.next.Pushed.{Pushed}
use Rattle.rows.specs.Row.{known, union}
use Rattle.rows.specs.Words.{row_added, report_of, both_reports, step_place}
use Rattle.rows.specs.Pushed.{pushed}
use Rattle.propagate.specs.Back.{pushed_at, back_rows, back_row, back_report}
use Rattle.propagate.proofs.MarkedLaws.{calm_then, rows_then}
use Rattle.propagate.proofs.back.go_back.Goals as goal

-- what one turn makes of the rows and the rest
module _ (targets : List ℕ) (ahead end : Row) (rows₀ rows : List ℕ) (s : ℕ) (p : Pushed)
    (reached : rows ≡ back_rows targets ahead end rows₀ s) (push : p ≡ pushed_at targets ahead end rows s) where
  pushed_here : p ≡ pushed_at targets ahead end (back_rows targets ahead end rows₀ s) s
  pushed_here = push ∙ ap (λ (l : List ℕ). pushed_at targets ahead end l s) reached

  turn_rows : row_added rows (step_place s) p.steps ≡ back_rows targets ahead end rows₀ (s + 1)
  unfolding back_rows
  turn_rows = (λ i. row_added (reached i) (step_place s) (pushed_here i).steps)
      ∙ ap (back_rows targets ahead end rows₀) (sym (add-one s))

  turn_row : {r : Row} → r ≡ back_row targets ahead end rows₀ s
      → union r p.end ≡ back_row targets ahead end rows₀ (s + 1)
  unfolding back_row
  turn_row e = (λ i. union (e i) (pushed_here i).end) ∙ ap (back_row targets ahead end rows₀) (sym (add-one s))

  turn_report : {r : Report} → r ≡ back_report targets ahead end rows₀ s
      → both_reports r (report_of rows (step_place s) p.steps) ≡ back_report targets ahead end rows₀ (s + 1)
  unfolding back_report
  turn_report e = (λ i. both_reports (e i) (report_of (reached i) (step_place s) (pushed_here i).steps))
      ∙ ap (back_report targets ahead end rows₀) (sym (add-one s))

pub loop-s-init : goal.loop-s-init
unfolding back_rows back_row back_report
loop-s-init c = search rules

pub loop-s-preserved : goal.loop-s-preserved
loop-s-preserved c =
    let a = c.args in
    let T = a.graph.now.targets in
    let l = c.loop-s in
    let p = c.push-p in
    let here : p.result ≡ pushed_at T a.ahead a.end l.rows l.s =
    p.ensures ∙ ap (λ (x : Row). pushed (get_or T l.s 0) x a.end (known a.ahead true l.s) (known a.ahead false l.s))
    c.step_row-x.ensures in
    record {
      rows = c.add_step.ensures.rows_after
          ∙ turn_rows T a.ahead a.end a.rows.now l.rows l.s p.result l.invariant.rows here;
      end = c.union-back.ensures
          ∙ turn_row T a.ahead a.end a.rows.now l.rows l.s p.result l.invariant.rows here l.invariant.end;
      report = c.both-back.ensures
          ∙ ap (both_reports l.back.report) c.add_step.ensures.value
          ∙ turn_report T a.ahead a.end a.rows.now l.rows l.s p.result l.invariant.rows here l.invariant.report;
      marked = rows_then l.invariant.marked c.add_step.ensures.marked;
      calm = calm_then l.back.report c.add_step.result c.both-back.result c.both-back.ensures l.invariant.calm
          c.add_step.ensures.calm;
    }
