-- `kept_try` and `struck_try` meet their contracts: what each shows at each call and return.
use Prim.Native.Nat.{ℕ, ◌-◌}
use mathlib.Core.Path.{◌≡◌, refl, sym, ap, subst₂, ◌∙◌}
use mathlib.Core.Bool.{true, false}
use mathlib.Core.List.{List}
use native.Mathlib.Omega.{arith}
use lib.ListN.{length, take, drop, replicate}
use Rattle.std.proofs.Common.{rules}
use Rattle.std.specs.Prelude.{Ok}
use Rattle.std.proofs.lemmas.Result.{err_from_is_err_and}
use Rattle.table.specs.Table.{Table}
use Rattle.events.specs.NetTable.{table_in}
use Rattle.circuit.specs.Logic.{Literal}
use Rattle.closure.specs.Computed.{Marks}
use Rattle.closure.specs.Knowledge.{level_total}
use Rattle.propagate.specs.Memory.{memory}
use Rattle.search.specs.Finds.{Held, Stores, Gives}
use Rattle.search.specs.Fine.{step_literals}
use Rattle.search.specs.Search.{Best}
use Rattle.walk.specs.KeptWords.{Keeps}
use Rattle.walk.specs.Stands.{GoesOn, try_from}
use Rattle.walk.proofs.Netted.{net_table}
use Rattle.walk.proofs.Lent.{
  whole_with,
  left_words,
  left_zeroed,
  left_whole,
  part_long,
  left_length,
  left_between,
  left_rests,
  lent_between,
  lent_rests,
}
use Rattle.walk.proofs.TryLaws.{
  try_within,
  walk_capped,
  kept_cut,
  kept_passed,
  kept_then,
  try_ended,
  try_goes,
  try_onward,
}
use Rattle.walk.proofs.tries.+tries.Goals as goal
use Rattle.walk.proofs.tries.+tries.Goals.{
  kept_try-in-Ended,
  kept_try-in-Unsettled+in_ok-kept-in-Unsettled,
  kept_try-then-fresh,
  kept_try-else-fresh,
}

module _ {levels room from : ℕ} {words mid : List ℕ} (keeps : Keeps levels room words mid from) {T : Table}
    (all : levels ≡ level_total T)
    {rows : List ℕ} {j : ℕ} {best : Held} {find : List ℕ} {P : List (Literal ℕ)} {m : Marks} {b : Best}
    (g : GoesOn T j (memory rows words) best find P m b) where
  -- where the kept try stands: at the same rows, with the words of the levels behind these
  kept_stands : GoesOn T j (memory rows (take (length mid - from) (drop from mid))) best find P m b
  kept_stands = record {
    stands = g.stands;
    between = lent_between keeps T rows all (step_literals P) g.between;
    stores = g.stores;
  }

  -- where the struck try stands, with what the kept one found: at the same rows
  struck_stands : (after : List ℕ) (size : length after ≡ length (take (length mid - from) (drop from mid)))
      (rest : List ℕ) → rest ≡ left_words levels from mid after
      → {best' : Held} {find' : List ℕ} (b' : Best) → Stores T b' best' find'
      → GoesOn T j (memory rows rest) best' find' P m b'
  struck_stands after size rest is b' stores = record {
    stands = g.stands;
    between = left_between keeps after size T rows all rest is (step_literals P) g.between;
    stores = stores;
  }

-- some words stand from there on, and before them what stood there
abbrev Part : ℕ → List ℕ → List ℕ → Type 0
Part from mid whole =
    (after : List ℕ) × (length after ≡ length (take (length mid - from) (drop from mid)))
    × (whole ≡ whole_with from mid after)

-- ---- the kept try

pub kept_try-returns-in_default : goal.kept_try-returns-in_default
kept_try-returns-in_default t c P m b g =
    walk_capped (table_in c.args.net.now) c.args.choices c.args.j c.args.rows.now P m g.stands b
    (sym c.in_default.is ∙ c.step.ensures) c.args.find.now

pub kept_try-choose-requires-clause-resting : goal.kept_try-choose-requires-clause-resting
kept_try-choose-requires-clause-resting t c e =
    lent_rests c.keep-from.ensures (table_in c.args.net.now) c.args.rows.now c.args.net.now.setting.all_levels
    c.requires.resting

pub kept_try-choose-requires-clause-somewhere : goal.kept_try-choose-requires-clause-somewhere
kept_try-choose-requires-clause-somewhere t c =
    let stand = c.requires.somewhere in
    (stand.0, stand.1, stand.2, kept_stands c.keep-from.ensures c.args.net.now.setting.all_levels stand.3)

pub kept_try-kept_try-requires : goal.kept_try-kept_try-requires
kept_try-kept_try-requires t c =
    let stand = c.requires.somewhere in
    let all = c.args.net.now.setting.all_levels in
    let goes = try_goes _ (net_table c.args.net.now) c.args.j c.args.rows.now stand.0 stand.1 stand.3.stands true
    c.args.choices
    c.in-Some.more (sym c.in-Some.is ∙ c.step.ensures) stand.2 _ _ _ _
    (c.choose.ensures stand.0 stand.1 stand.2 (kept_stands c.keep-from.ensures all stand.3))
    c.in-Unsettled.k c.in-Unsettled.is c.requires.made_le_cap in (
      omega (arith, goes.0, c.decreases),
      (omega (arith, c.choose.auto.words, part_long c.keep-from.ensures, all), (goes.1, (goes.2, goes.3))),
    )

pub kept_try-returns-in_err-kept-in-Unsettled : goal.kept_try-returns-in_err-kept-in-Unsettled
kept_try-returns-in_err-kept-in-Unsettled t c P m b g =
    let p = err_from_is_err_and c.from_residual.result c.from_residual.ensures.1 in
    rw (p.1, p.2)
    (kept_cut (table_in c.args.net.now) c.args.choices c.args.j c.args.rows.now P m g.stands b c.kept_try.new.find
    c.kept_try.result
    (try_onward _ (net_table c.args.net.now) c.args.j c.args.rows.now P m g.stands true c.args.choices
    c.in-Some.more (sym c.in-Some.is ∙ c.step.ensures) b _ _ _ _
    (c.choose.ensures P m b (kept_stands c.keep-from.ensures c.args.net.now.setting.all_levels g))
    c.in-Unsettled.k c.in-Unsettled.is _ _ c.kept_try.ensures)
    c.in_err-kept-in-Unsettled.field-0.0 c.in_err-kept-in-Unsettled.was)

-- what the kept try has come to, whichever way; and the words that the struck one is lent: of 0 where it begins afresh,
-- else as the kept one left them
pub kept_try-struck_try-requires : goal.kept_try-struck_try-requires
kept_try-struck_try-requires t c =
    let T = table_in c.args.net.now in
    let wf = net_table c.args.net.now in
    let rows = c.args.rows.now in
    let count = c.args.choices in
    let keeps = c.keep-from.ensures in
    let all = c.args.net.now.setting.all_levels in
    let mid = c.keep-from.new.words in
    let from = c.keep-from.result in
    let stand = c.requires.somewhere in
    let next = sym c.in-Some.is ∙ c.step.ensures in
    let comes = c.choose.ensures stand.0 stand.1 stand.2 (kept_stands keeps all stand.3) in
    let gives : Gives T count.cap (try_from T true count.cap c.args.j stand.0 stand.2 count.made) c.match-choose.find
    (Ok c.match-choose.kept) =
    elim c.match-choose.branch as
    (λ _. Gives T count.cap (try_from T true count.cap c.args.j stand.0 stand.2 count.made) c.match-choose.find
    (Ok c.match-choose.kept)) [
      | kept_try-in-Ended w ↦
          subst₂ (λ f k. Gives T count.cap (try_from T true count.cap c.args.j stand.0 stand.2 count.made) f (Ok k))
          (sym w.find-is) (sym w.kept-is)
          (try_ended T wf c.args.j rows stand.0 stand.1 stand.3.stands true count c.in-Some.more next stand.2
          _ _ _ _ comes w.in-Ended.best w.in-Ended.is)
      | kept_try-in-Unsettled+in_ok-kept-in-Unsettled w ↦
          subst₂ (λ f r. Gives T count.cap (try_from T true count.cap c.args.j stand.0 stand.2 count.made) f r)
          (sym w.find-is)
          (w.in_ok-kept-in-Unsettled.was ∙ sym (ap Ok w.kept-is))
          (try_onward T wf c.args.j rows stand.0 stand.1 stand.3.stands true count c.in-Some.more next stand.2
          _ _ _ _ comes w.in-Unsettled.k w.in-Unsettled.is _ _ w.kept_try.ensures)
    ] in
    let came : Part from mid c.match-choose.words =
    elim c.match-choose.branch as (λ _. Part from mid c.match-choose.words) [
      | kept_try-in-Ended w ↦ (c.choose.new.words, c.choose.auto.words, w.words-is)
      | kept_try-in-Unsettled+in_ok-kept-in-Unsettled w ↦
          (w.kept_try.new.words, w.kept_try.auto.words ∙ c.choose.auto.words, w.words-is)
    ] in
    let rest : c.if-fresh.words ≡ left_words c.args.net.now.bases.total from mid came.0 =
    elim c.if-fresh.branch as (λ _. c.if-fresh.words ≡ left_words c.args.net.now.bases.total from mid came.0) [
      | kept_try-then-fresh w ↦
          left_zeroed mid came.0 w.words-is (search rules ∙ ap (λ (l : List ℕ). replicate (length l) 0) came.2)
          (omega (arith, w.if-fresh.true))
      | kept_try-else-fresh w ↦ left_whole mid came.0 (w.words-is ∙ came.2) (omega (arith, w.if-fresh.false))
    ] in
    let kept = c.match-choose.kept in
    let there = kept_passed T count c.args.j rows stand.0 stand.1 stand.3.stands stand.2 c.match-choose.find (Ok kept)
    gives kept refl in (
      omega (arith, c.decreases),
      (
        omega (arith, left_length keeps came.0 came.1 _ rest, c.requires.words_room),
        (
          try_within T wf c.args.j rows stand.0 stand.1 stand.3.stands true count c.requires.made_le_cap stand.2
              c.match-choose.find (Ok kept) gives kept refl,
          (
            left_rests keeps came.0 came.1 T rows all c.if-fresh.words rest c.requires.resting,
            (stand.0, stand.1, there.0, struck_stands keeps all stand.3 came.0 came.1 _ rest there.0 there.2),
          ),
        ),
      ),
    )

pub kept_try-returns : goal.kept_try-returns
kept_try-returns t c P m b g =
    let T = table_in c.args.net.now in
    let wf = net_table c.args.net.now in
    let rows = c.args.rows.now in
    let count = c.args.choices in
    let keeps = c.keep-from.ensures in
    let all = c.args.net.now.setting.all_levels in
    let mid = c.keep-from.new.words in
    let from = c.keep-from.result in
    let next = sym c.in-Some.is ∙ c.step.ensures in
    let comes = c.choose.ensures P m b (kept_stands keeps all g) in
    let gives : Gives T count.cap (try_from T true count.cap c.args.j P b count.made) c.match-choose.find
    (Ok c.match-choose.kept) =
    elim c.match-choose.branch as
    (λ _. Gives T count.cap (try_from T true count.cap c.args.j P b count.made) c.match-choose.find
    (Ok c.match-choose.kept)) [
      | kept_try-in-Ended w ↦
          subst₂ (λ f k. Gives T count.cap (try_from T true count.cap c.args.j P b count.made) f (Ok k))
          (sym w.find-is) (sym w.kept-is)
          (try_ended T wf c.args.j rows P m g.stands true count c.in-Some.more next b _ _ _ _ comes w.in-Ended.best
          w.in-Ended.is)
      | kept_try-in-Unsettled+in_ok-kept-in-Unsettled w ↦
          subst₂ (λ f r. Gives T count.cap (try_from T true count.cap c.args.j P b count.made) f r) (sym w.find-is)
          (w.in_ok-kept-in-Unsettled.was ∙ sym (ap Ok w.kept-is))
          (try_onward T wf c.args.j rows P m g.stands true count c.in-Some.more next b _ _ _ _ comes w.in-Unsettled.k
          w.in-Unsettled.is _ _ w.kept_try.ensures)
    ] in
    let came : Part from mid c.match-choose.words =
    elim c.match-choose.branch as (λ _. Part from mid c.match-choose.words) [
      | kept_try-in-Ended w ↦ (c.choose.new.words, c.choose.auto.words, w.words-is)
      | kept_try-in-Unsettled+in_ok-kept-in-Unsettled w ↦
          (w.kept_try.new.words, w.kept_try.auto.words ∙ c.choose.auto.words, w.words-is)
    ] in
    let rest : c.if-fresh.words ≡ left_words c.args.net.now.bases.total from mid came.0 =
    elim c.if-fresh.branch as (λ _. c.if-fresh.words ≡ left_words c.args.net.now.bases.total from mid came.0) [
      | kept_try-then-fresh w ↦
          left_zeroed mid came.0 w.words-is (search rules ∙ ap (λ (l : List ℕ). replicate (length l) 0) came.2)
          (omega (arith, w.if-fresh.true))
      | kept_try-else-fresh w ↦ left_whole mid came.0 (w.words-is ∙ came.2) (omega (arith, w.if-fresh.false))
    ] in
    let kept = c.match-choose.kept in
    kept_then T count c.args.j rows P m g.stands b c.match-choose.find (Ok kept) gives kept refl _ _
    (λ b' stores. c.struck_try.ensures P m b' (struck_stands keeps all g came.0 came.1 _ rest b' stores))

-- ---- the struck try

pub struck_try-kept_try-requires : goal.struck_try-kept_try-requires
struck_try-kept_try-requires t c =
    let stand = c.requires.somewhere in
    let goes = try_goes _ (net_table c.args.net.now) c.args.j c.args.rows.now stand.0 stand.1 stand.3.stands false
    c.args.choices
    c.in-Some.more (sym c.in-Some.is ∙ c.step.ensures) stand.2 _ _ _ _
    (c.choose.ensures stand.0 stand.1 stand.2 stand.3)
    c.in-Unsettled.k c.in-Unsettled.is c.requires.made_le_cap in (
      omega (arith, goes.0, c.decreases),
      (omega (arith, c.choose.auto.words, c.requires.words_room), (goes.1, (goes.2, goes.3))),
    )

pub struck_try-returns-in-Ended : goal.struck_try-returns-in-Ended
struck_try-returns-in-Ended t c P m b g =
    try_ended _ (net_table c.args.net.now) c.args.j c.args.rows.now P m g.stands false c.args.choices
    c.in-Some.more (sym c.in-Some.is ∙ c.step.ensures) b _ _ _ _ (c.choose.ensures P m b g) c.in-Ended.best
    c.in-Ended.is

pub struck_try-returns-in-Unsettled : goal.struck_try-returns-in-Unsettled
struck_try-returns-in-Unsettled t c P m b g =
    try_onward _ (net_table c.args.net.now) c.args.j c.args.rows.now P m g.stands false c.args.choices
    c.in-Some.more (sym c.in-Some.is ∙ c.step.ensures) b _ _ _ _
    (c.choose.ensures P m b g) c.in-Unsettled.k c.in-Unsettled.is _ _ c.kept_try.ensures
