-- The judge accepts exactly the repairs in the narrower sense, and each refusal says which part of a repair fails,
-- and that all that is tested before it holds.
use Prim.Native.Nat.{ℕ}
use mathlib.Core.Path.{◌≡◌, refl, sym, subst, ◌∙◌}
use mathlib.Core.Bool.{Bool, true, false, false≢true}
use mathlib.Core.Logic.{◌↔◌}
use mathlib.Core.List.{List}
use lib.ListN.{length}
use Rattle.std.specs.Prelude.{Ok, Err}
use Rattle.table.specs.declared.refusal.Refusal.{Refusal}
use Rattle.table.specs.declared.refusal.Refusal.TheVariants.{
  SheetForm,
  Length,
  Counts,
  StateRecord,
  NoInitial,
  StepEnd,
  RepeatedStep,
  NodeRecord,
  ListForm,
  ShortBuffer,
  NotTotal,
  NoInitialKept,
  RootFails,
  UnreachedStep,
  NotTables,
}
use Rattle.table.specs.Verdict.{Verdict, require, ◌then◌}
use Rattle.table.specs.Table.{Table, table_of}
use Rattle.table.specs.Accept.{table_verdict, list_verdict}
use Rattle.table.specs.Facts.{IsTable}
use Rattle.table.specs.Refused.{TableRefused}
use Rattle.table.proofs.Verdicts.{refused, require_accepted, then_accepted}
use Rattle.table.proofs.Refused.{is_table, table_refused}
use Rattle.ctl.specs.Kept.{IsList}
use Rattle.ctl.specs.Exact.{JudgeIsExact, JudgeRefusesRightly}
use Rattle.ctl.specs.Refused.{JudgeRefused}
use Rattle.ctl.specs.Tests.{is_total, keeps_initial, leaves_reached, root_marked, narrow_tests, judge_verdict}
use Rattle.ctl.proofs.Repair.{
  is_list,
  is-total,
  keeps_initial_lem,
  leaves_reached_lem,
  root_marked_lem,
  judge_accepts_repairs,
}

-- a refusal of two verdicts is the first one's, or the second one's after the first accepts
pub by_first : (P : Refusal → Type 0) (v w : Verdict) (r : Refusal)
    → (v ≡ Err r → P r) → (v ≡ Ok tt → w ≡ Err r → P r) → v then w ≡ Err r → P r
by_first P (Ok tt) w r first second e = second refl e
by_first P (Err q) w r first second e = first e

-- a refusal of a required test is the one that is required, and the test fails
pub by_test : (P : Refusal → Type 0) (q : Refusal) (b : Bool) (r : Refusal) → (b ≡ false → P q) → require q b ≡ Err r
    → P r
by_test P q true r fails e = absurd (refused r (sym e))
by_test P q false r fails e = let same : q ≡ r = cc in subst P same (fails refl)

-- what a test decides fails where the test does
pub not_so : (b : Bool) {A : Type 0} → (b ≡ true) ↔ A → b ≡ false → ¬ A
not_so b means e a = false≢true (sym e ∙ means.1 a)

-- the refusal of a list's form
pub by_form : (P : Refusal → Type 0) (T : Table) (list : List ℕ) (r : Refusal)
    → (¬ IsList T list → P ListForm) → list_verdict (length T.steps) list ≡ Err r → P r
unfolding list_verdict
by_form P T list r fails e =
    by_test P ListForm _ r (λ f. fails (λ form. refused r (sym e ∙ (is_list T list).1 form))) e

module _ (table list : List ℕ) where
  abbrev T : Table
  T = table_of table

  abbrev P : Refusal → Type 0
  P = JudgeRefused table list

  of_table : (r : Refusal) → TableRefused table r → P r
  of_table SheetForm x = x
  of_table Length x = x
  of_table Counts x = x
  of_table StateRecord x = x
  of_table NoInitial x = x
  of_table StepEnd x = x
  of_table RepeatedStep x = x
  of_table NodeRecord x = x
  of_table ListForm x = absurd x
  of_table ShortBuffer x = x
  of_table NotTotal x = absurd x
  of_table NoInitialKept x = absurd x
  of_table RootFails x = absurd x
  of_table UnreachedStep x = absurd x
  of_table NotTables x = absurd x

  -- of a table and a list of its form
  narrow_refused : IsTable table → IsList T list → (r : Refusal) → narrow_tests T list ≡ Err r → P r
  narrow_refused is form r =
      by_first P (require NotTotal (is_total T list)) _ r
      (by_test P NotTotal (is_total T list) r (λ f. (is, form, not_so _ (is-total T list) f)))
      (λ ok. let total = (is-total T list).0 (require_accepted _ _ ok) in
      by_first P (require NoInitialKept (keeps_initial T list)) _ r
      (by_test P NoInitialKept (keeps_initial T list) r (λ f. (is, form, total, not_so _ (keeps_initial_lem T list) f)))
      (λ ok. let starts = (keeps_initial_lem T list).0 (require_accepted _ _ ok) in
      by_first P (require UnreachedStep (leaves_reached T list)) _ r
      (by_test P UnreachedStep (leaves_reached T list) r
      (λ f. (is, form, total, starts, not_so _ (leaves_reached_lem T is.wellformed list) f)))
      (λ ok. let reached = (leaves_reached_lem T is.wellformed list).0 (require_accepted _ _ ok) in
      by_test P RootFails (root_marked T list) r
      (λ f. (is, form, total, starts, reached, not_so _ (root_marked_lem T is.wellformed list total) f)))))

  refuses_rightly : (r : Refusal) → judge_verdict table list ≡ Err r → P r
  unfolding judge_verdict
  refuses_rightly r =
      by_first P (table_verdict table) _ r (λ e. of_table r (table_refused table r e))
      (λ ok. let is = (is_table table).0 ok in
      by_first P (list_verdict (length T.steps) list) _ r (by_form P T list r (λ n. (is, n)))
      (λ ok. narrow_refused is ((is_list T list).0 ok) r))

pub judge_refused : JudgeRefusesRightly
judge_refused = refuses_rightly

pub judge_exact : JudgeIsExact
unfolding judge_verdict
judge_exact table list = (
  λ e.
      let ok = (then_accepted (table_verdict table) _ e).0 in
      let is = (is_table table).0 ok in
      (is, (judge_accepts_repairs table list is.wellformed ok).0 e),
  λ h. (judge_accepts_repairs table list h.0.wellformed ((is_table table).1 h.0)).1 h.1,
)
