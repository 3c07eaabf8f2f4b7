-- `plain_visit` meets its contract: the node at the states of its word, which is emptied where nothing was added.
use Prim.Native.Nat.{ℕ}
use mathlib.Core.Path.{refl, sym, ap, ◌∙◌}
use native.Mathlib.Omega.{arith}
use lib.ListN.{get_or}
use Rattle.ctl.specs.Rule.{Operator}
use Rattle.ctl.proofs.BottomUp.{children_below}
use Rattle.readers.specs.Reads.{is_child, has_levels}
use Rattle.readers.proofs.NodeReads.{child_below}
use Rattle.readers.proofs.Places.{cells_in}
use Rattle.propagate.specs.Memory.{memory}
use Rattle.events.specs.NetTable.{table_in}
use Rattle.events.proofs.FewWords.{few_words}
use Rattle.events.proofs.SettingFacts.{wellformed, low, all_words, words_begin}
use Rattle.events.proofs.Looking.{looked_so, looked_none}
use Rattle.events.proofs.VisitPlain.{plain_only, plain_first, plain_place, plain_loud, plain_calm}
use Rattle.events.proofs.visit.plain_visit.Goals as goal

pub offset_bounds-net-i : goal.offset_bounds-net-i
offset_bounds-net-i c = record { fits = omega (arith, low c.args.net.now c.args.i c.requires.i_below) }

pub bounds-net-i : goal.bounds-net-i
bounds-net-i c = omega (arith, low c.args.net.now c.args.i c.requires.i_below)

pub offset_bounds-looks-place : goal.offset_bounds-looks-place
offset_bounds-looks-place c =
    let net = c.args.net.now in
    let T = table_in net in
    let i = c.args.i in
    record {
      fits = omega (
        arith,
        words_begin net i c.requires.i_below,
        cells_in T i c.requires.i_below,
        few_words T (wellformed net),
      );
    }

pub bounds-looks-place : goal.bounds-looks-place
bounds-looks-place c =
    let net = c.args.net.now in
    let T = table_in net in
    let i = c.args.i in
    omega (
      arith,
      words_begin net i c.requires.i_below,
      plain_first T i (ap has_levels (sym c.requires.is_operator) ∙ c.requires.plain) c.requires.i_below,
      c.requires.room,
    )

pub returns-then-word-eq0 : goal.returns-then-word-eq0
returns-then-word-eq0 c =
    let a = c.args in
    let net = a.net.now in
    let T = table_in net in
    let plain = ap has_levels (sym c.requires.is_operator) ∙ c.requires.plain in
    λ w sized. looked_so (λ x f k e. ap (λ (j : ℕ). get_or a.looks.now j 0)
    (plain_only T a.i k plain e ∙ plain_place net a.i c.requires.i_below) ∙ c.if-word-eq0.true) (λ z. z)
    (looked_none T a.looks.now (memory a.rows.now w) sized c.default.result c.default.ensures)

pub node_step-report-requires-clause-i_below : goal.node_step-report-requires-clause-i_below
node_step-report-requires-clause-i_below c = low c.args.net.now c.args.i c.requires.i_below

pub node_step-report-requires-clause-children_below : goal.node_step-report-requires-clause-children_below
node_step-report-requires-clause-children_below c =
    let net = c.args.net.now in
    let wf = wellformed net in
    λ k e.
    let below = child_below c.args.i _ (children_below (table_in net) wf c.args.i c.requires.i_below) k
    (ap (λ (o : Operator). is_child o k) (sym c.requires.is_operator) ∙ e) in
    omega (arith, below, low net c.args.i c.requires.i_below)

pub node_step-report-requires-clause-room : goal.node_step-report-requires-clause-room
node_step-report-requires-clause-room c = omega (arith, c.requires.room, all_words c.args.net.now)

pub returns-then-not-is_quiet : goal.returns-then-not-is_quiet
returns-then-not-is_quiet c =
    let a = c.args in
    let net = a.net.now in
    let s = c.node_step-report in
    let plain = ap has_levels (sym c.requires.is_operator) ∙ c.requires.plain in
    λ w sized. plain_loud net a.i c.requires.i_below plain a.rows.now s.new.rows a.looks.now s.new.looks
    (omega (arith, c.requires.room, s.ensures.marked.raised.same_length)) s.result
    s.ensures.calm s.ensures.marked c.below.result c.below.ensures _ refl a.operator c.requires.is_operator
    s.ensures.value w sized
    (sym c.is_quiet.ensures ∙ c.if-not-is_quiet.true)

pub returns : goal.returns
returns c =
    let a = c.args in
    let net = a.net.now in
    let s = c.node_step-report in
    let plain = ap has_levels (sym c.requires.is_operator) ∙ c.requires.plain in
    λ w sized. plain_calm net a.i c.requires.i_below plain a.rows.now s.new.rows a.looks.now s.new.looks
    (omega (arith, c.requires.room, s.ensures.marked.raised.same_length)) s.result
    s.ensures.calm s.ensures.marked c.below.result c.below.ensures _ refl a.operator c.requires.is_operator
    s.ensures.value w sized
    (sym c.is_quiet.ensures ∙ c.if-not-is_quiet.false)
