-- `level_step` meets its contract: the join of the level is added, then what it says is taken back to the steps and
-- the level below.
use mathlib.Core.Path.{◌≡◌, ap, ◌∙◌}
use Rattle.rows.specs.declared.row.Row.{Row}
use Rattle.rows.specs.declared.joined.Joined.{Joined}
use Rattle.propagate.specs.Memory.{memory, go_back_more}
use Rattle.propagate.specs.Level.{level_at, add_level, add_joined, joined_at, level_step}
use Rattle.propagate.proofs.Chain.{after}
use Rattle.propagate.proofs.MarkedLaws.{calm_then, rows_then, levels_then}
use Rattle.propagate.proofs.level.level_step.Goals as goal

pub returns-clause-value : goal.returns-clause-value
unfolding level_step
returns-clause-value c =
    let a = c.args in
    let l = c.level_row-below in
    let j = c.joined_at-j in
    let d = c.add_joined-first in
    let k = c.level_back in
    let M = memory a.rows.now a.words.now in
    let T = a.graph.now.targets in
    let joins : j.result ≡ joined_at T a.graph.now.states a.x a.m a.look (level_at a.graph.now.states a.x a.m M) M =
    j.ensures ∙ ap (λ (r : Row). joined_at T a.graph.now.states a.x a.m a.look r M) l.ensures in
    after {S = add_joined T a.graph.now.states a.x a.m
    (joined_at T a.graph.now.states a.x a.m a.look (level_at a.graph.now.states a.x a.m M) M) M}
    (go_back_more T a.graph.now.states a.x.every
    (joined_at T a.graph.now.states a.x a.m a.look (level_at a.graph.now.states a.x a.m M) M).more
    (level_at a.graph.now.states a.x a.m M) (add_level a.graph.now.states a.x a.m))
    (d.ensures.value ∙ ap (λ (r : Joined). add_joined T a.graph.now.states a.x a.m r M) joins)
    (k.ensures.value ∙ (λ i. go_back_more T a.graph.now.states a.x.every (joins i).more (l.ensures i)
    (add_level a.graph.now.states a.x a.m) (memory d.new.rows d.new.words)))
    c.both.ensures

pub returns-clause-marked : goal.returns-clause-marked
returns-clause-marked c = rows_then c.add_joined-first.ensures.marked c.level_back.ensures.marked

pub returns-clause-levels : goal.returns-clause-levels
returns-clause-levels c = levels_then c.add_joined-first.ensures.levels c.level_back.ensures.levels

pub returns-clause-calm : goal.returns-clause-calm
returns-clause-calm c = calm_then c.add_joined-first.result c.level_back.result c.both.result c.both.ensures
    c.add_joined-first.ensures.calm c.level_back.ensures.calm
