-- Two rows are added, each worked out from the rows as they were, and each marked.
use mathlib.Core.Path.{ap, ap₂, ◌∙◌}
use lib.ListN.{get_or}
use Rattle.rows.specs.Rules.{kept_row, kept_back}
use Rattle.rows.specs.Words.{row_at, step_place}
use Rattle.propagate.specs.Memory.{kept_place, add_step}
use Rattle.propagate.proofs.Chain.{added, after}
use Rattle.propagate.proofs.MarkedLaws.{rows_then, calm_then}
use Rattle.closure.specs.MemoryRules.{kept_step}
use Rattle.closure.proofs.kept.kept_step.Goals as goal

pub returns-clause-value : goal.returns-clause-value
unfolding kept_step
returns-clause-value c =
    let a = c.args in
    let target = get_or a.graph.now.targets a.s 0 in
    let steps = c.step_row-x.ensures in
    λ w. after (add_step a.s (kept_back a.s target (row_at a.rows.now (step_place a.s)) (row_at a.rows.now kept_place)))
    (added a.rows.now kept_place (c.kept_row.ensures ∙ ap (kept_row a.s target) steps) c.add_kept-first.ensures.value
    c.add_kept-first.ensures.rows_after w)
    (added c.add_kept-first.new.rows (step_place a.s)
    (c.kept_back.ensures ∙ ap₂ (kept_back a.s target) steps c.row_at-k.ensures)
    c.add_step.ensures.value c.add_step.ensures.rows_after w)
    c.both.ensures

pub returns-clause-marked : goal.returns-clause-marked
returns-clause-marked c = rows_then c.add_kept-first.ensures.marked c.add_step.ensures.marked

pub returns-clause-calm : goal.returns-clause-calm
returns-clause-calm c = calm_then c.add_kept-first.result c.add_step.result c.both.result c.both.ensures
    c.add_kept-first.ensures.calm c.add_step.ensures.calm
