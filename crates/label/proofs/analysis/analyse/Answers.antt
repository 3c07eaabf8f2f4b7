-- `analyse` meets its contract: the tests in their order, and then the sets.
use Prim.Native.Nat.{ℕ}
use mathlib.Core.Path.{◌≡◌, sym, ap, ◌∙◌}
use mathlib.Core.List.{List}
use lib.ListN.{length}
use Rattle.std.proofs.Common.{rules}
use Rattle.std.specs.Prelude.{Ok, Err}
use Rattle.table.specs.declared.refusal.Refusal.TheVariants.{ShortBuffer}
use Rattle.table.specs.Verdict.{Verdict}
use Rattle.table.specs.Table.{table_of}
use Rattle.table.specs.Accept.{list_verdict}
use Rattle.ctl.specs.Tests.{is_total}
use Rattle.label.specs.Analysis.{analysis_at, room_fits, sets_of}
use Rattle.label.proofs.Order.{form_refused, form_length, room_refused, room_passed}
use Rattle.label.proofs.Ways.{at_total}
use Rattle.label.proofs.analysis.analyse.Goals as goal

-- the analysis by its verdict
by_verdict : (table list : List ℕ) (v w : Verdict) → v ≡ w
    → analysis_at w (sets_of (table_of table) list) ≡ analysis_at v (sets_of (table_of table) list)
by_verdict table list v w e = sym (ap (λ (u : Verdict). analysis_at u (sets_of (table_of table) list)) e)

-- the list's form, as it is tested with a number that is that of the steps
form_is : (table list : List ℕ) (e : ℕ) → e ≡ length (table_of table).steps → (v w : Verdict)
    → v ≡ list_verdict e list → v ≡ w
    → list_verdict (length (table_of table).steps) list ≡ w
form_is table list e steps v w tested gives = ap (λ (k : ℕ). list_verdict k list) (sym steps) ∙ sym tested ∙ gives

pub returns-in_err-check_list : goal.returns-in_err-check_list
returns-in_err-check_list c =
    let t = c.args.table.now in
    let l = c.args.list.now in
    let r = c.in_err-check_list.field-0.0 in
    let gives : c.from_residual.result ≡ Err r = search rules in
    let form = form_is t.bytes.now l _ c.step_count.ensures _
    (Err r) c.check_list.ensures.value c.in_err-check_list.was in
    let refused = form_refused (room_fits c.args.room (table_of t.bytes.now)) t.bytes.now l t.passes r form in
    gives ∙ by_verdict t.bytes.now l _ (Err r) refused

pub returns-then-not-room_fits : goal.returns-then-not-room_fits
returns-then-not-room_fits c =
    let t = c.args.table.now in
    let l = c.args.list.now in
    let form = form_is t.bytes.now l _ c.step_count.ensures _
    (Ok tt) c.check_list.ensures.value c.in_ok-check_list.was in
    let room = sym c.room_fits.ensures ∙ c.if-not-room_fits.true in
    by_verdict t.bytes.now l _ (Err ShortBuffer) (room_refused _ t.bytes.now l t.passes form room)

pub total_sets-requires : goal.total_sets-requires
total_sets-requires c =
    let t = c.args.table.now in
    form_length t.bytes.now c.args.list.now
    (form_is t.bytes.now c.args.list.now _ c.step_count.ensures _
    (Ok tt) c.check_list.ensures.value c.in_ok-check_list.was)

pub returns : goal.returns
returns c =
    let t = c.args.table.now in
    let l = c.args.list.now in
    let form = form_is t.bytes.now l _ c.step_count.ensures _
    (Ok tt) c.check_list.ensures.value c.in_ok-check_list.was in
    let room = sym c.room_fits.ensures ∙ c.if-not-room_fits.false in
    c.total_sets.ensures
    ∙ at_total (is_total (table_of t.bytes.now) l) (sets_of (table_of t.bytes.now) l)
    ∙ by_verdict t.bytes.now l _ _ (room_passed _ t.bytes.now l t.passes form room)
