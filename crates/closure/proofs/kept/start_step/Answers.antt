-- Two rows are added, each worked out from the rows as they were, and each marked.
use mathlib.Core.Path.{◌≡◌, ap, ◌∙◌}
use lib.Bits.{bit_and}
use lib.Dec.{eqb}
use Rattle.rows.specs.declared.row.Row.{Row}
use Rattle.rows.specs.Rules.{open_starts, start_kept, start_root}
use Rattle.rows.specs.Words.{row_at}
use Rattle.propagate.specs.Memory.{node_place, kept_place, stepped}
use Rattle.closure.specs.MemoryRules.{start_step}
use Rattle.propagate.proofs.Chain.{after_add, quiet_is}
use Rattle.propagate.proofs.MarkedLaws.{rows_then, calm_then}
use Rattle.closure.proofs.kept.start_step.Goals as goal

pub returns-clause-value : goal.returns-clause-value
unfolding start_step
returns-clause-value c =
    let a = c.args in
    let rows = a.rows.now in
    let kept : c.row_at-k.result ≡ row_at rows kept_place = c.row_at-k.ensures in
    λ w. after_add (node_place a.root)
    (after_add kept_place
    (λ i. let quiet = quiet_is c.default.result c.default.ensures i in
    stepped rows w (record { changed = quiet.changed; fails = eqb (open_starts a.initial (kept i)) 0 }))
    (λ i. record {
      yes = (c.last_left.ensures ∙ ap (λ (r : Row). (start_kept a.initial r r).yes) kept) i;
      no = bit_and (c.node_row-x.ensures i).no a.initial;
    })
    c.add_kept.ensures.value c.add_kept.ensures.rows_after
    c.both-first.ensures)
    (ap (start_root a.initial) kept)
    c.add_node.ensures.value c.add_node.ensures.rows_after
    c.both.ensures

pub returns-clause-marked : goal.returns-clause-marked
returns-clause-marked c = rows_then c.add_kept.ensures.marked c.add_node.ensures.marked

pub returns-clause-calm : goal.returns-clause-calm
returns-clause-calm c =
    calm_then c.both-first.result c.add_node.result c.both.result c.both.ensures
    (calm_then _ c.add_kept.result c.both-first.result c.both-first.ensures (λ e i. c.args.looks.now)
    c.add_kept.ensures.calm) c.add_node.ensures.calm
