-- What the tests of Label and Holding say in the words of tables and lists: when all pass, and what each refusal means.
use Prim.Native.Nat.{ℕ, ◌≤◌, ◌<◌}
use mathlib.Core.Path.{◌≡◌, sym, ◌∙◌}
use mathlib.Core.Bool.{false, true≢false}
use mathlib.Core.Logic.{◌↔◌}
use mathlib.Core.List.{List}
use native.Mathlib.Omega.{arith}
use borrow.Author.Tests.{leb-true, le-leb}
use lib.Dec.{leb}
use lib.ListN.{length}
use Rattle.std.specs.Prelude.{Ok, Err, IfErr}
use Rattle.table.specs.declared.refusal.Refusal.{Refusal}
use Rattle.table.specs.declared.refusal.Refusal.TheVariants.{
  SheetForm,
  Length,
  Counts,
  StateRecord,
  NoInitial,
  StepEnd,
  RepeatedStep,
  NodeRecord,
  ListForm,
  ShortBuffer,
  NotTotal,
  NoInitialKept,
  RootFails,
  UnreachedStep,
  NotTables,
}
use Rattle.table.specs.Verdict.{Verdict, require}
use Rattle.table.specs.Table.{Table, table_of}
use Rattle.table.specs.Accept.{table_verdict, list_verdict}
use Rattle.table.specs.Refused.{TableRefused}
use Rattle.table.proofs.Verdicts.{require_accepted, accepted_require, accepted_then}
use Rattle.table.proofs.Refused.{is_table, table_refused}
use Rattle.ctl.specs.Refused.{ListRefused}
use Rattle.ctl.specs.Tests.{is_total}
use Rattle.ctl.proofs.Repair.{is_list, is-total}
use Rattle.ctl.proofs.Refused.{by_first, by_test, by_form, not_so}
use Rattle.label.specs.Analysis.{analysis_verdict}
use Rattle.label.specs.TotalWithRoom.{TotalWithRoom}
use Rattle.label.proofs.Order.{table_accepted, list_accepted, room_accepted, total_accepted}

module _ (entries room : ℕ) (table list : List ℕ) where
  abbrev T : Table
  T = table_of table

  abbrev P : Refusal → Type 0
  P = ListRefused entries room table list

  -- all tests pass
  pub tests_pass : (analysis_verdict (leb entries room) table list ≡ Ok tt) ↔ TotalWithRoom table list entries room
  unfolding analysis_verdict
  tests_pass = (there, back)
    where
      there : analysis_verdict (leb entries room) table list ≡ Ok tt → TotalWithRoom table list entries room
      there ok = record {
        accepted = (is_table table).0 (table_accepted _ table list ok);
        form = (is_list T list).0 (list_accepted _ table list ok);
        enough = leb-true entries room (room_accepted _ table list ok);
        total = (is-total T list).0 (total_accepted _ table list ok);
      }

      back : TotalWithRoom table list entries room → analysis_verdict (leb entries room) table list ≡ Ok tt
      back h =
          accepted_then (table_verdict table) _ ((is_table table).1 h.accepted)
          (accepted_then (list_verdict (length T.steps) list) _ ((is_list T list).1 h.form)
          (accepted_then (require ShortBuffer (leb entries room)) _
          (accepted_require ShortBuffer _ (le-leb entries room h.enough))
          (accepted_require NotTotal _ ((is-total T list).1 h.total))))

  of_table : (r : Refusal) → TableRefused table r → P r
  of_table SheetForm x = x
  of_table Length x = x
  of_table Counts x = x
  of_table StateRecord x = x
  of_table NoInitial x = x
  of_table StepEnd x = x
  of_table RepeatedStep x = x
  of_table NodeRecord x = x
  of_table ListForm x = absurd x
  of_table ShortBuffer x = absurd x
  of_table NotTotal x = absurd x
  of_table NoInitialKept x = x
  of_table RootFails x = x
  of_table UnreachedStep x = x
  of_table NotTables x = x

  too_few : leb entries room ≡ false → room < entries
  too_few f = let short : ¬ (entries ≤ room) = (λ h. true≢false (sym (le-leb entries room h) ∙ f)) in
      omega (arith, short)

  pub tests_refuse : (r : Refusal) → analysis_verdict (leb entries room) table list ≡ Err r → P r
  unfolding analysis_verdict
  tests_refuse r =
      by_first P (table_verdict table) _ r (λ e. of_table r (table_refused table r e))
      (λ ok. let is = (is_table table).0 ok in
      by_first P (list_verdict (length T.steps) list) _ r (by_form P T list r (λ n. (is, n)))
      (λ ok. let form = (is_list T list).0 ok in
      by_first P (require ShortBuffer (leb entries room)) _ r
      (by_test P ShortBuffer (leb entries room) r (λ f. (is, form, too_few f)))
      (λ ok. let fits = leb-true entries room (require_accepted _ _ ok) in
      by_test P NotTotal (is_total T list) r (λ f. (is, form, fits, not_so _ (is-total T list) f)))))

  -- the same of an answer that is the verdict
  module _ (v : Verdict) (e : v ≡ analysis_verdict (leb entries room) table list) where
    pub verdict_passes : (v ≡ Ok tt) ↔ TotalWithRoom table list entries room
    verdict_passes = (λ ok. tests_pass.0 (sym e ∙ ok), λ h. e ∙ tests_pass.1 h)

  pub verdict_refuses : (v : Verdict) → v ≡ analysis_verdict (leb entries room) table list → IfErr v P
  verdict_refuses (Ok tt) e = tt
  verdict_refuses (Err r) e = tests_refuse r (sym e)
