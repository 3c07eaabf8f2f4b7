-- `fit_report` meets its contract: each way out has its own text, and there is room for it.
use Prim.Native.Nat.{ℕ, ◌≤◌}
use mathlib.Core.Path.{◌≡◌, sym}
use mathlib.Core.List.{List, ◌++◌}
use lib.ListN.{length, drop}
use Rattle.render.specs.Stored.{Stored}
use Rattle.render.proofs.Left.{room_as, stored_as}
use Rattle.report.specs.Report.{fit_text}
use Rattle.report.proofs.Cases.{too_long, text_is, text_room, stored_front}
use Rattle.report.proofs.Says.{fit_says}
use Rattle.report.proofs.Printed.{none_says, refused_says}
use Rattle.report.proofs.ListPrinted.{list_says}
use Rattle.report.proofs.fit_report.Goals as goal

-- the text's own bytes are stored where there is room for them
stored_text : (text out after : List ℕ) (next : ℕ) → 2048 ≤ length out → Stored out 0 (fit_text text) after next
    → (next ≡ length (fit_text text)) × (after ≡ fit_text text ++ drop (length (fit_text text)) out)
stored_text text out after next h s = stored_front out (fit_text text) after next (text_room text out h) s

pub write_refused-requires : goal.write_refused-requires
write_refused-requires c =
    let text = c.args.text.now in
    room_as c.args.out.now 0 _ _ (sym (too_long text c.if-text-gt-MOST.true)) (text_room text c.args.out.now c.requires)

pub report_table-requires : goal.report_table-requires
report_table-requires c =
    let text = c.args.text.now in
    let same = text_is text c.if-text-gt-MOST.false c.read_into.ensures.value c.in-Ok.is in
    room_as _ _ _ _ same (text_room text c.args.out.now c.requires)

pub write_refused-requires-in-Err : goal.write_refused-requires-in-Err
write_refused-requires-in-Err c =
    let text = c.args.text.now in
    let same = text_is text c.if-text-gt-MOST.false c.read_into.ensures.value c.in-Err.is in
    room_as _ _ _ _ same (text_room text c.args.out.now c.requires)

pub returns-then-text-gt-MOST : goal.returns-then-text-gt-MOST
returns-then-text-gt-MOST c =
    let text = c.args.text.now in
    let same = sym (too_long text c.if-text-gt-MOST.true) in
    let k = stored_text text _ _ _ c.requires (stored_as _ _ _ _ _ _ same c.write_refused.ensures) in
    record {
      value = k.0;
      out_after = k.1;
      says = fit_says text;
      none_printed = none_says text;
      list_printed = list_says text;
      refused_printed = refused_says text;
    }

pub returns-in-Ok : goal.returns-in-Ok
returns-in-Ok c =
    let text = c.args.text.now in
    let same = text_is text c.if-text-gt-MOST.false c.read_into.ensures.value c.in-Ok.is in
    let k = stored_text text _ _ _ c.requires (stored_as _ _ _ _ _ _ same c.report_table.ensures) in
    record {
      value = k.0;
      out_after = k.1;
      says = fit_says text;
      none_printed = none_says text;
      list_printed = list_says text;
      refused_printed = refused_says text;
    }

pub returns-in-Err : goal.returns-in-Err
returns-in-Err c =
    let text = c.args.text.now in
    let same = text_is text c.if-text-gt-MOST.false c.read_into.ensures.value c.in-Err.is in
    let k = stored_text text _ _ _ c.requires (stored_as _ _ _ _ _ _ same c.write_refused-in-Err.ensures) in
    record {
      value = k.0;
      out_after = k.1;
      says = fit_says text;
      none_printed = none_says text;
      list_printed = list_says text;
      refused_printed = refused_says text;
    }
