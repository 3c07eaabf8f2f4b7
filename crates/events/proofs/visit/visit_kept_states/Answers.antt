-- `visit_kept_states` meets its contract: K at one state of the set after the other.
use Prim.Native.Nat.{ℕ}
use mathlib.Core.Path.{sym, subst}
use native.Mathlib.Omega.{arith}
use Rattle.sets.proofs.Walk.{Left, others, next_inside, left_next}
use Rattle.propagate.proofs.MarkedLaws.{rows_then, calm_then}
use Rattle.events.specs.NetTable.{table_in}
use Rattle.events.proofs.SettingFacts.{wellformed, all_words}
use Rattle.events.proofs.VisitKept.{KeptOn, kept_next, kept_last, kept_failed}
use Rattle.events.proofs.visit.visit_kept_states.Goals as goal

pub kept_step-requires-clause-room : goal.kept_step-requires-clause-room
kept_step-requires-clause-room c =
    omega (arith, c.requires.room, all_words c.args.net.now, c.loop-s.invariant.marked.raised.same_length)

pub returns-then-report-clause-kept : goal.returns-then-report-clause-kept
returns-then-report-clause-kept c =
    let a = c.args in
    let net = a.net.now in
    let l = c.loop-s in
    let left = l.s-iterator.left in
    let s = c.in-Some.s in
    let next = c.in-Some.ensures.steps in
    let step = c.kept_step in
    let further : KeptOn (table_in net) a.look (others left s) a.rows.now step.new.rows c.both-report.result =
    kept_next (table_in net) a.look (wellformed net) net.graph.targets left s (net.setting.targets_at s next.0)
    (c.requires.inside s (next_inside a.look left s l.invariant.left next.1 next.2))
    a.rows.now l.rows step.new.rows l.report step.result c.both-report.result l.invariant.kept step.ensures.value
    c.both-report.ensures in
    λ w. kept_failed (table_in net) a.look _ _ _ _ c.if-report.true further w

pub returns-then-report-clause-marked : goal.returns-then-report-clause-marked
returns-then-report-clause-marked c = rows_then c.loop-s.invariant.marked c.kept_step.ensures.marked

pub returns-then-report-clause-calm : goal.returns-then-report-clause-calm
returns-then-report-clause-calm c =
    calm_then c.loop-s.report c.kept_step.result c.both-report.result c.both-report.ensures c.loop-s.invariant.calm
    c.kept_step.ensures.calm

pub loop-s-preserved : goal.loop-s-preserved
loop-s-preserved c =
    let a = c.args in
    let net = a.net.now in
    let l = c.loop-s in
    let left = l.s-iterator.left in
    let s = c.in-Some.s in
    let next = c.in-Some.ensures.steps in
    let step = c.kept_step in
    let further : KeptOn (table_in net) a.look (others left s) a.rows.now step.new.rows c.both-report.result =
    kept_next (table_in net) a.look (wellformed net) net.graph.targets left s (net.setting.targets_at s next.0)
    (c.requires.inside s (next_inside a.look left s l.invariant.left next.1 next.2))
    a.rows.now l.rows step.new.rows l.report step.result c.both-report.result l.invariant.kept step.ensures.value
    c.both-report.ensures in
    record {
      left = subst (Left a.look) (sym next.3) (left_next a.look left s l.invariant.left next.1 next.2);
      kept = subst (λ (x : ℕ). KeptOn (table_in net) a.look x a.rows.now step.new.rows c.both-report.result)
          (sym next.3) further;
      marked = rows_then l.invariant.marked step.ensures.marked;
      calm =
          calm_then l.report step.result c.both-report.result c.both-report.ensures l.invariant.calm step.ensures.calm;
    }

pub returns-clause-kept : goal.returns-clause-kept
returns-clause-kept c =
    let a = c.args in
    let l = c.loop-s in
    λ w. kept_last (table_in a.net.now) a.look l.s-iterator.left c.ranges.look.fits c.in-None.ensures.steps.0 _ _ _
    l.invariant.kept w
