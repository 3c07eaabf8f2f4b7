-- `check_steps` meets its contract. The loop's invariant: the steps before j have their bits, and `repeated` says
-- whether one of them repeats another.
use lib.Seq.{take_all}
use lib.ListN.{get_or, set, take, drop}
use Rattle.sets.specs.Member.{member}
use Rattle.table.proofs.Records.{records-length, records_done}
use Prim.Native.Nat.{ℕ, ◌+◌, ◌≤◌, ◌<◌, zero-le}
use mathlib.Core.Path.{◌≡◌, refl, sym, ap, ◌∙◌}
use mathlib.Core.Bool.{Bool, true, false, not, ◌&&◌, ◌||◌}
use mathlib.Core.List.{List, [], ◌∷◌, ◌++◌}
use native.Mathlib.Omega.{arith}
use borrow.Author.Tests.{not-true, not-false}
use Rattle.table.specs.declared.record.Step.{Step}
use Rattle.table.specs.declared.refusal.Refusal.TheVariants.{StepEnd, RepeatedStep}
use Rattle.table.specs.Verdict.{require, ◌then◌}
use Rattle.table.specs.Table.{records, step_of, step_width}
use Rattle.table.specs.Accept.{all, step_fits, distinct}
use Rattle.table.proofs.Facts.{step_within}
use Rattle.table.proofs.Scan.{record_all, record_take}
use Rattle.table.proofs.Rows.{rows_none, rows_more, repeated_more}
use Rattle.table.specs.Rows.{Rows}
use Rattle.table.proofs.step_check.check_steps.Goals as goal
use Rattle.table.proofs.step_check.check_steps.Goals.{then-repeated, else-repeated}

-- what a step that fits says of its ends
ends : (n : ℕ) (x : Step) (b : Bool) → n ≤ 32 → b ≡ step_fits n x → b ≡ true → (x.from < 32) × (x.to < 32)
ends n x b few e t =
    let h = step_within n x (sym e ∙ t) in
    (omega arith, omega arith)

pub loop-j-init : goal.loop-j-init
unfolding distinct
loop-j-init c = (zero-le, refl, rows_none, refl)

pub returns-then-not-step_fits : goal.returns-then-not-step_fits
returns-then-not-step_fits c =
    let a = c.args in
    let j = c.loop-j.j in
    let x = c.record_at-x.result in
    let xs = records step_of step_width a.e a.section.now in
    let fails : step_fits a.n x ≡ false = sym c.step_fits.ensures ∙ c.if-not-step_fits.true in
    let whole : all (step_fits a.n) xs ≡ false =
    c.loop-j.invariant.1
    ∙ record_all step_of step_width a.e a.section.now j c.loop-j-test.true x c.record_at-x.ensures (step_fits a.n)
    ∙ ap (λ (b : Bool). b && all (step_fits a.n) (drop (j + 1) xs)) fails in
    ap (λ (b : Bool). require StepEnd b then require RepeatedStep (distinct xs)) (sym whole)

pub offset_bounds-given-x : goal.offset_bounds-given-x
offset_bounds-given-x c =
    let h = ends c.args.n c.record_at-x.result c.step_fits.result c.requires c.step_fits.ensures
    c.if-not-step_fits.false in omega (arith, h.0)

pub bounds-given-x : goal.bounds-given-x
bounds-given-x c =
    (ends c.args.n c.record_at-x.result c.step_fits.result c.requires c.step_fits.ensures c.if-not-step_fits.false).0

pub offset_bounds-given-x-in-loop-j : goal.offset_bounds-given-x-in-loop-j
offset_bounds-given-x-in-loop-j c =
    let h = ends c.args.n c.record_at-x.result c.step_fits.result c.requires c.step_fits.ensures
    c.if-not-step_fits.false in omega (arith, h.0)

pub bounds-given-x-in-loop-j : goal.bounds-given-x-in-loop-j
bounds-given-x-in-loop-j c =
    (ends c.args.n c.record_at-x.result c.step_fits.result c.requires c.step_fits.ensures c.if-not-step_fits.false).0

pub loop-j-preserved : goal.loop-j-preserved
loop-j-preserved c =
    let a = c.args in
    let l = a.section.now in
    let j = c.loop-j.j in
    let x = c.record_at-x.result in
    let xs = records step_of step_width a.e l in
    let h = c.loop-j-test.true in
    let here = c.record_at-x.ensures in
    let fits : c.step_fits.result ≡ true = c.if-not-step_fits.false in
    let in_range = ends a.n x c.step_fits.result c.requires c.step_fits.ensures fits in
    let g = c.loop-j.invariant.2 in
    let rows = c.loop-j.given in
    let seam : take (j + 1) xs ≡ take j xs ++ (x ∷ []) = record_take step_of step_width a.e l j h x here in
    let more : Rows (set rows x.from c.insert.result) (take (j + 1) xs) =
    rw seam (rw c.insert.ensures (rows_more rows (take j xs) g x in_range.0 in_range.1)) in
    let whole : not (distinct (take (j + 1) xs)) ≡ c.loop-j.repeated || member (get_or rows x.from 0) x.to =
    rw seam (repeated_more rows (take j xs) g x in_range.0 in_range.1
    ∙ ap (λ (b : Bool). b || member (get_or rows x.from 0) x.to) (sym c.loop-j.invariant.3)) in
    let again : c.if-repeated.repeated ≡ not (distinct (take (j + 1) xs)) =
    elim c.if-repeated.branch as (λ _. c.if-repeated.repeated ≡ not (distinct (take (j + 1) xs))) [
      | then-repeated w ↦ w.repeated-is ∙ w.if-repeated.true
          ∙ sym (whole ∙ ap (λ (b : Bool). b || member (get_or rows x.from 0) x.to) w.if-repeated.true)
      | else-repeated w ↦ w.repeated-is ∙ w.contains-repeated.ensures
          ∙ sym (whole ∙ ap (λ (b : Bool). b || member (get_or rows x.from 0) x.to) w.if-repeated.false)
    ] in (
      omega arith,
      c.loop-j.invariant.1 ∙ record_all step_of step_width a.e l j h x here (step_fits a.n)
          ∙ ap (λ (b : Bool). b && all (step_fits a.n) (drop (j + 1) xs)) (sym c.step_fits.ensures ∙ fits),
      more,
      again,
    )

pub returns-then-repeated-2 : goal.returns-then-repeated-2
unfolding all
returns-then-repeated-2 c =
    let a = c.args in
    let l = a.section.now in
    let j = c.loop-j.j in
    let xs = records step_of step_width a.e l in
    let e : j ≡ a.e = omega arith in
    let fit : all (step_fits a.n) xs ≡ true =
    c.loop-j.invariant.1 ∙ ap (all (step_fits a.n)) (records_done step_of step_width a.e l j c.loop-j-test.false) in
    let all_of : take j xs ≡ xs = take_all j xs (omega (arith, records-length step_of step_width a.e l)) in
    let rep : distinct xs ≡ false =
    not-true _ (sym (c.loop-j.invariant.3 ∙ ap (λ (ys : List Step). not (distinct ys)) all_of)
    ∙ c.if-repeated-2.true) in
    sym (ap (λ (b : Bool). require StepEnd b then require RepeatedStep (distinct xs)) fit
    ∙ ap (require RepeatedStep) rep)

pub returns-else-repeated-2 : goal.returns-else-repeated-2
unfolding all
returns-else-repeated-2 c =
    let a = c.args in
    let l = a.section.now in
    let j = c.loop-j.j in
    let xs = records step_of step_width a.e l in
    let fit : all (step_fits a.n) xs ≡ true =
    c.loop-j.invariant.1 ∙ ap (all (step_fits a.n)) (records_done step_of step_width a.e l j c.loop-j-test.false) in
    let all_of : take j xs ≡ xs = take_all j xs (omega (arith, records-length step_of step_width a.e l)) in
    let rep : distinct xs ≡ true =
    not-false _ (sym (c.loop-j.invariant.3 ∙ ap (λ (ys : List Step). not (distinct ys)) all_of)
    ∙ c.if-repeated-2.false) in
    sym (ap (λ (b : Bool). require StepEnd b then require RepeatedStep (distinct xs)) fit
    ∙ ap (require RepeatedStep) rep)
