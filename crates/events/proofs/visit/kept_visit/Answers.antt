-- `kept_visit` meets its contract: K at the states of its word, which is emptied where nothing was added.
use Prim.Native.Nat.{ℕ}
use mathlib.Core.Path.{sym, ap, ◌∙◌}
use native.Mathlib.Omega.{arith}
use lib.Dec.{ltb}
use lib.ListN.{get_or}
use Rattle.sets.specs.Member.{set_of}
use Rattle.events.specs.NetTable.{table_in}
use Rattle.events.proofs.LookWords.{word_inside}
use Rattle.events.proofs.VisitKept.{kept_loud, kept_calm}
use Rattle.events.proofs.visit.kept_visit.Goals as goal

pub visit_kept_states-report-requires-clause-inside : goal.visit_kept_states-report-requires-clause-inside
visit_kept_states-report-requires-clause-inside c =
    let net = c.args.net.now in
    word_inside (table_in net) (get_or c.args.looks.now 0 0) c.below.result
    (c.below.ensures ∙ ap (λ (n : ℕ). set_of 32 (λ t. ltb t n)) net.setting.states)

pub returns-then-not-is_quiet : goal.returns-then-not-is_quiet
returns-then-not-is_quiet c =
    let a = c.args in
    let k = c.visit_kept_states-report in
    λ w sized. kept_loud a.net.now a.rows.now k.new.rows a.looks.now k.new.looks k.result k.ensures.calm
    k.ensures.marked c.below.result c.below.ensures k.ensures.kept w sized
    (sym c.is_quiet.ensures ∙ c.if-not-is_quiet.true)

pub returns : goal.returns
returns c =
    let a = c.args in
    let k = c.visit_kept_states-report in
    λ w sized. kept_calm a.net.now a.rows.now k.new.rows a.looks.now k.new.looks k.result k.ensures.calm
    k.ensures.marked c.below.result c.below.ensures k.ensures.kept w sized
    (omega (arith, c.requires.room, k.ensures.marked.raised.same_length))
    (sym c.is_quiet.ensures ∙ c.if-not-is_quiet.false)
