-- `report_input` meets its contract where there was more than a sheet may have: it is refused, as such a text is.
use Rattle.std.proofs.Common.{arith, sym, ap, ◌∙◌, subst, take}
use lib.Seq.{take_at}
use Rattle.table.specs.declared.refusal.Refusal.TheVariants.{SheetForm}
use Rattle.input.specs.declared.Input.{Input}
use Rattle.input.specs.declared.Input.TheVariants.{More}
use Rattle.input.specs.Input.{Gave}
use Rattle.render.specs.Stored.{HasRoom}
use Rattle.report.specs.Texts.{refused}
use Rattle.report.proofs.Fits.{refused-length}
use Rattle.report.proofs.Cases.{too_long, stored_front}
use Rattle.report.proofs.run.report_input.Goals as goal

pub write_refused-requires : goal.write_refused-requires
write_refused-requires c = omega (arith, refused-length SheetForm, c.told-out)

pub returns-in-More-clause-inside : goal.returns-in-More-clause-inside
returns-in-More-clause-inside c =
    omega (arith, c.write_refused.ensures.place, refused-length SheetForm, c.told-out, c.write_refused.auto.out)

pub returns-in-More-clause-printed : goal.returns-in-More-clause-printed
returns-in-More-clause-printed c bytes gave =
    let room : HasRoom c.args.out.now 0 (refused SheetForm) = omega (arith, refused-length SheetForm, c.told-out) in
    let k = stored_front c.args.out.now (refused SheetForm) _ _ room c.write_refused.ensures in
    let text = c.args.text.now in
    let more : Gave bytes text More = subst (λ (i : Input). Gave bytes text i) c.in-More.is gave in
    ap (take c.write_refused.result) k.1
    ∙ take_at (refused SheetForm) _ c.write_refused.result (sym k.0)
    ∙ sym (too_long bytes (omega (arith, more, c.told-text)))
