-- `judge_list` meets its contract: each way out has decided the tests up to its own.
use Prim.Native.Nat.{ℕ}
use mathlib.Core.Path.{◌≡◌, sym, ap, ◌∙◌}
use mathlib.Core.Bool.{Bool, true, not, ◌&&◌}
use mathlib.Core.List.{List}
use borrow.Author.Tests.{eq-eqb, ne_eqb}
use lib.Dec.{eqb}
use Rattle.sets.specs.Member.{member, set_of}
use Rattle.sets.proofs.SetOf.{set_of_cong, member-set_of-below}
use Rattle.table.specs.declared.refusal.Refusal.TheVariants.{NoInitialKept, RootFails, UnreachedStep}
use Rattle.std.specs.Prelude.{Ok, Err}
use Rattle.std.proofs.Common.{rules}
use Rattle.table.specs.Facts.{Wellformed}
use Rattle.table.proofs.Facts.{accepted}
use Rattle.table.specs.Verdict.{require, ◌then◌}
use Rattle.table.specs.Table.{table_of, initial_at}
use Rattle.table.proofs.Verdicts.{then_refused, then_next}
use Rattle.ctl.specs.Labels.{is_kept}
use Rattle.ctl.specs.Reached.{is_initial_kept}
use Rattle.ctl.specs.Tests.{keeps_initial, leaves_reached, root_marked, judge_verdict}
use Rattle.label.specs.declared.analysis.Analysis.{Analysis}
use Rattle.label.specs.declared.room.Room.TheVariants.{Any}
use Rattle.label.specs.Analysis.{analysis_verdict, analysis_of, sets_of}
use Rattle.label.proofs.Order.{table_refused_first, table_accepted}
use Rattle.label.proofs.Ways.{analysis_moved, way_refused, way_passed}
use Rattle.judge.specs.Reached.{Least}
use Rattle.judge.proofs.Starts.{keeps_word, unreached_word, root_word}
use Rattle.judge.proofs.ReachedStates.{reached_word}
use Rattle.judge.proofs.Exact.{verdict_exact, verdict_refuses}
use Rattle.judge.proofs.Order.{last_tests, judge_order}
use Rattle.judge.proofs.judge_list.Goals as goal

module _ (table list : List ℕ) {a : Analysis} (way : Ok a ≡ analysis_of Any table list) where
  ok : analysis_verdict true table list ≡ Ok tt
  ok = (way_passed Any table list a way).0

  e : a ≡ sets_of (table_of table) list
  e = (way_passed Any table list a way).1

  wf : Wellformed (table_of table)
  wf = (accepted table (table_accepted true table list ok)).table

  -- what is left to test
  left : judge_verdict table list ≡ last_tests (table_of table) list
  left = judge_order table list ∙ then_next (analysis_verdict true table list) _ ok

  module _ {w : ℕ} (f : w ≡ set_of 32 (λ t. member a.initial t && member a.kept t)) where
    starts_are : w ≡ set_of 32 (is_initial_kept (table_of table) list)
    starts_are =
        f ∙ set_of_cong 32 _ _ (λ s h. λ i.
        (ap (λ (m : ℕ). member m s) (ap (λ (x : Analysis). x.initial) e)
        ∙ member-set_of-below 32 (initial_at (table_of table)) s h) i
        && (ap (λ (m : ℕ). member m s) (ap (λ (x : Analysis). x.kept) e)
        ∙ member-set_of-below 32 (is_kept (table_of table) list) s h) i)

    -- 12, 16 and 13, by the sets that the code tests
    keeps : not (eqb w 0) ≡ keeps_initial (table_of table) list
    keeps = keeps_word (table_of table) wf list w starts_are

    leaves : (r : ℕ) → Least a.rows w r → (x : ℕ) → x ≡ set_of 32 (λ t. member a.kept t && not (member r t))
        → eqb x 0 ≡ leaves_reached (table_of table) list
    leaves r least x g =
        unreached_word (table_of table) wf list a.kept r x (ap (λ (x : Analysis). x.kept) e)
        (reached_word (table_of table) wf list a.rows (ap (λ (x : Analysis). x.rows) e) w starts_are r least) g

    root_marks : (x : ℕ) → x ≡ set_of 32 (λ t. member w t && not (member a.root t))
        → eqb x 0 ≡ root_marked (table_of table) list
    root_marks x g = root_word (table_of table) wf list w a.root x starts_are (ap (λ (x : Analysis). x.root) e) g

    -- with an initial state that is kept, 16 and 13 are left, and the set x decides 16
    module _ (some : ¬ (w ≡ 0)) {r : ℕ} (least : Least a.rows w r) {x : ℕ}
        (g : x ≡ set_of 32 (λ t. member a.kept t && not (member r t))) where
      reached_left : judge_verdict table list
          ≡ require UnreachedStep (eqb x 0) then require RootFails (root_marked (table_of table) list)
      reached_left =
          left
          ∙ then_next _ _ (ap (require NoInitialKept) (sym keeps ∙ ap not (ne_eqb w 0 some)))
          ∙ ap (λ (b : Bool). require UnreachedStep b then require RootFails (root_marked (table_of table) list))
          (sym (leaves r least x g))

      -- with every kept state reached too, 13 is left, and the set y decides it
      root_left : x ≡ 0 → {y : ℕ} → y ≡ set_of 32 (λ t. member w t && not (member a.root t)) → {b : Bool} → eqb y 0 ≡ b
          → require RootFails b ≡ judge_verdict table list
      root_left all m told =
          sym (reached_left ∙ then_next _ _ (ap (require UnreachedStep) (eq-eqb x 0 all))
          ∙ ap (require RootFails) (sym (root_marks _ m) ∙ told))

pub returns-in_err-table : goal.returns-in_err-table
returns-in_err-table c =
    let t = c.args.table.now in
    let l = c.args.list.now in
    let r = c.in_err-table.field-0.0 in
    let gives : c.from_residual.result ≡ Err r = search rules in
    let refused = table_refused_first true t l r c.in_err-table.ensures.0 in
    let told = gives ∙ sym (judge_order t l ∙ then_refused (analysis_verdict true t l) _ r refused ∙ refused) in
    record { value = told; exact = verdict_exact t l _ told; refused = verdict_refuses t l _ told }

pub returns-in_err-a : goal.returns-in_err-a
returns-in_err-a c =
    let t = c.args.table.now in
    let l = c.args.list.now in
    let r = c.in_err-a.field-0.0 in
    let gives : c.from_residual-in_err-a.result ≡ Err r = search rules in
    let refused = way_refused Any t l r
    (sym c.in_err-a.was ∙ analysis_moved Any l _ t c.in_ok-table.ensures.0 _ c.analyse.ensures) in
    let told = gives ∙ sym (judge_order t l ∙ then_refused (analysis_verdict true t l) _ r refused ∙ refused) in
    record { value = told; exact = verdict_exact t l _ told; refused = verdict_refuses t l _ told }

pub returns-then-starts-eq0 : goal.returns-then-starts-eq0
returns-then-starts-eq0 c =
    let t = c.args.table.now in
    let l = c.args.list.now in
    let way = sym c.in_ok-a.was ∙ analysis_moved Any l _ t c.in_ok-table.ensures.0 _ c.analyse.ensures in
    let refuses = ap (require NoInitialKept)
    (sym (keeps _ _ way c.intersection-starts.ensures) ∙ ap not (eq-eqb _ 0 c.if-starts-eq0.true)) in
    let told = sym (left _ _ way ∙ then_refused _ _ NoInitialKept refuses ∙ refuses) in
    record { value = told; exact = verdict_exact t l _ told; refused = verdict_refuses t l _ told }

pub returns-then-minus-ne0 : goal.returns-then-minus-ne0
returns-then-minus-ne0 c =
    let t = c.args.table.now in
    let l = c.args.list.now in
    let way = sym c.in_ok-a.was ∙ analysis_moved Any l _ t c.in_ok-table.ensures.0 _ c.analyse.ensures in
    let refuses = ap (require UnreachedStep) (ne_eqb c.minus.result 0 c.if-minus-ne0.true) in
    let told = sym (
    reached_left _ _ way c.intersection-starts.ensures c.if-starts-eq0.false c.reached_states-reached.ensures
    c.minus.ensures
    ∙ then_refused _ _ UnreachedStep refuses ∙ refuses
    ) in
    record { value = told; exact = verdict_exact t l _ told; refused = verdict_refuses t l _ told }

pub returns-then-minus-ne0-2 : goal.returns-then-minus-ne0-2
returns-then-minus-ne0-2 c =
    let t = c.args.table.now in
    let l = c.args.list.now in
    let way = sym c.in_ok-a.was ∙ analysis_moved Any l _ t c.in_ok-table.ensures.0 _ c.analyse.ensures in
    let told = root_left _ _ way c.intersection-starts.ensures c.if-starts-eq0.false c.reached_states-reached.ensures
    c.minus.ensures c.if-minus-ne0.false
    c.minus-2.ensures (ne_eqb c.minus-2.result 0 c.if-minus-ne0-2.true) in
    record { value = told; exact = verdict_exact t l _ told; refused = verdict_refuses t l _ told }

pub returns : goal.returns
returns c =
    let t = c.args.table.now in
    let l = c.args.list.now in
    let way = sym c.in_ok-a.was ∙ analysis_moved Any l _ t c.in_ok-table.ensures.0 _ c.analyse.ensures in
    let told = root_left _ _ way c.intersection-starts.ensures c.if-starts-eq0.false c.reached_states-reached.ensures
    c.minus.ensures c.if-minus-ne0.false
    c.minus-2.ensures (eq-eqb c.minus-2.result 0 c.if-minus-ne0-2.false) in
    record { value = told; exact = verdict_exact t l _ told; refused = tt }
