-- `level_visit` meets its contract: a level with no state in its word, or like the one seen last, is passed over; any
-- other is looked at.
use Prim.Native.Nat.{ℕ, suc}
use mathlib.Core.Path.{◌≡◌, refl, sym, ap, ◌∙◌}
use native.Mathlib.Numerals.{add-one}
use native.Mathlib.Omega.{arith}
use lib.ListN.{get_or}
use Rattle.propagate.specs.Memory.{memory}
use Rattle.propagate.specs.Level.{level_at}
use Rattle.propagate.proofs.Chain.{quiet_is}
use Rattle.events.specs.NetTable.{table_in}
use Rattle.events.proofs.AlikeLevels.{alike_parts}
use Rattle.events.proofs.FewWords.{few_words}
use Rattle.events.proofs.SettingFacts.{wellformed, all_words}
use Rattle.events.proofs.Looking.{looked_so, looked_none}
use Rattle.events.proofs.VisitLevel.{
  in_room,
  all_in_room,
  level_fits,
  level_loud,
  level_calm,
  level_alike,
  seen_after,
  seen_none,
}
use Rattle.events.proofs.levels.level_visit.Goals as goal

pub overflow_add-place : goal.overflow_add-place
overflow_add-place c =
    let net = c.args.net.now in
    record {
      fits = omega (
        arith,
        in_room (table_in net) c.args.x c.requires.fixpoint c.args.m c.requires.m_below,
        few_words (table_in net) (wellformed net),
      );
    }

pub offset_bounds-looks-place : goal.offset_bounds-looks-place
offset_bounds-looks-place c =
    let net = c.args.net.now in
    record {
      fits = omega (
        arith,
        in_room (table_in net) c.args.x c.requires.fixpoint c.args.m c.requires.m_below,
        few_words (table_in net) (wellformed net),
      );
    }

pub bounds-looks-place : goal.bounds-looks-place
bounds-looks-place c = omega (
  arith,
  in_room (table_in c.args.net.now) c.args.x c.requires.fixpoint c.args.m c.requires.m_below,
  c.requires.room,
)

pub level_row-level-requires-clause-fits : goal.level_row-level-requires-clause-fits
level_row-level-requires-clause-fits c =
    level_fits c.args.net.now c.args.x c.requires.fixpoint c.args.rows.now c.args.words.now c.requires.sized

pub level_row-below-requires-clause-fits : goal.level_row-below-requires-clause-fits
level_row-below-requires-clause-fits c =
    level_fits c.args.net.now c.args.x c.requires.fixpoint c.args.rows.now c.args.words.now c.requires.sized

pub level_step-report-requires-clause-fits : goal.level_step-report-requires-clause-fits
level_step-report-requires-clause-fits c =
    level_fits c.args.net.now c.args.x c.requires.fixpoint c.args.rows.now c.args.words.now c.requires.sized

pub level_step-report-requires-clause-has_words : goal.level_step-report-requires-clause-has_words
level_step-report-requires-clause-has_words c =
    omega (
      arith,
      all_in_room (table_in c.args.net.now) c.args.x c.requires.fixpoint,
      c.args.net.now.setting.states,
      c.requires.room,
    )

pub level_step-report-requires-clause-room : goal.level_step-report-requires-clause-room
level_step-report-requires-clause-room c = omega (arith, c.requires.room, all_words c.args.net.now)

pub returns-then-word-eq0-clause-looked : goal.returns-then-word-eq0-clause-looked
returns-then-word-eq0-clause-looked c =
    let a = c.args in
    let T = table_in a.net.now in
    let M = memory a.rows.now a.words.now in
    looked_so (λ x f k e. ap (λ (j : ℕ). get_or a.looks.now j 0) e ∙ c.if-word-eq0.true) (λ z. z)
    (looked_none T a.looks.now M c.requires.sized c.default.result c.default.ensures)

pub returns-then-is_alike-clause-looked : goal.returns-then-is_alike-clause-looked
returns-then-is_alike-clause-looked c =
    let a = c.args in
    let n = a.net.now.graph.states in
    let above : c.level_row-level.result ≡ level_at n a.x (suc a.m) (memory a.rows.now a.words.now) =
    c.level_row-level.ensures ∙ ap (λ (k : ℕ). level_at n a.x k (memory a.rows.now a.words.now)) (add-one a.m) in
    level_alike a.net.now a.x c.requires.fixpoint a.m c.requires.m_below a.rows.now a.words.now a.looks.now
    c.requires.sized c.below.result c.below.ensures _ refl
    c.requires.room a.seen c.requires.seen_rests c.level_row-level.result c.level_row-below.result above
    c.level_row-below.ensures
    (alike_parts a.seen _ c.level_row-level.result c.level_row-below.result
    (sym c.is_alike.ensures ∙ c.if-is_alike.true))
    c.default-then-is_alike.result (quiet_is c.default-then-is_alike.result c.default-then-is_alike.ensures)

pub returns-then-not-is_quiet-clause-looked : goal.returns-then-not-is_quiet-clause-looked
returns-then-not-is_quiet-clause-looked c =
    let a = c.args in
    let s = c.level_step-report in
    level_loud a.net.now a.x c.requires.fixpoint a.m c.requires.m_below a.rows.now a.words.now a.looks.now
    c.requires.sized c.below.result c.below.ensures _ refl
    s.new.rows s.new.words s.new.looks s.result (omega (arith, c.requires.room, s.ensures.marked.raised.same_length))
    s.ensures.value s.ensures.calm s.ensures.marked s.ensures.levels
    (sym c.is_quiet.ensures ∙ c.if-not-is_quiet.true)

pub returns-then-not-is_quiet-clause-seen_rests : goal.returns-then-not-is_quiet-clause-seen_rests
returns-then-not-is_quiet-clause-seen_rests c = seen_none (table_in c.args.net.now) c.args.x _ _ refl

pub returns-clause-looked : goal.returns-clause-looked
returns-clause-looked c =
    let a = c.args in
    let s = c.level_step-report in
    level_calm a.net.now a.x c.requires.fixpoint a.m c.requires.m_below a.rows.now a.words.now a.looks.now
    c.requires.sized c.below.result c.below.ensures _ refl
    s.new.rows s.new.words s.new.looks s.result (omega (arith, c.requires.room, s.ensures.marked.raised.same_length))
    s.ensures.value s.ensures.calm s.ensures.marked s.ensures.levels
    (sym c.is_quiet.ensures ∙ c.if-not-is_quiet.false)

pub returns-clause-seen_rests : goal.returns-clause-seen_rests
returns-clause-seen_rests c =
    let a = c.args in
    let s = c.level_step-report in
    let n = a.net.now.graph.states in
    let above : c.level_row-level.result ≡ level_at n a.x (suc a.m) (memory a.rows.now a.words.now) =
    c.level_row-level.ensures ∙ ap (λ (k : ℕ). level_at n a.x k (memory a.rows.now a.words.now)) (add-one a.m) in
    seen_after a.net.now a.x c.requires.fixpoint a.m c.requires.m_below a.rows.now a.words.now a.looks.now
    c.requires.sized c.below.result c.below.ensures _ refl
    s.new.rows s.new.words s.new.looks s.result (omega (arith, c.requires.room, s.ensures.marked.raised.same_length))
    s.ensures.value s.ensures.calm s.ensures.marked s.ensures.levels
    (sym c.is_quiet.ensures ∙ c.if-not-is_quiet.false) c.level_row-level.result c.level_row-below.result above
    c.level_row-below.ensures
