-- `read_into` meets its contract: what was packed is tested.
use mathlib.Core.Path.{◌≡◌, sym, subst}
use Rattle.std.proofs.Common.{rules, Err}
use Rattle.std.specs.Prelude.{Result, IfErr}
use Rattle.table.specs.declared.refusal.Refusal.{Refusal}
use Rattle.table.specs.declared.accepted.Accepted.{Accepted}
use Rattle.reader.specs.Read.{ReadInto}
use Rattle.reader.specs.Exact.{TextRefused}
use Rattle.reader.proofs.Found.{text_refused, packed_tested, into_refused, into_packed}
use Rattle.reader.proofs.reader.read_into.Goals as goal

pub returns-in_err-length-clause-value : goal.returns-in_err-length-clause-value
returns-in_err-length-clause-value c =
    let e : c.from_residual.result ≡ Err c.in_err-length.field-0.0 = search rules in
    subst (ReadInto c.args.text.now) (sym e) c.in_err-length.ensures

pub returns-in_err-length-clause-refused : goal.returns-in_err-length-clause-refused
returns-in_err-length-clause-refused c =
    let text = c.args.text.now in
    let e : c.from_residual.result ≡ Err c.in_err-length.field-0.0 = search rules in
    subst (λ (r : Result Accepted Refusal). IfErr r (TextRefused text)) (sym e)
    (text_refused text _ c.in_err-length.ensures)

pub returns : goal.returns
returns c =
    let text = c.args.text.now in
    let r = c.try_from.result in
    let h = packed_tested text _ _ c.in_ok-length.ensures r c.try_from.ensures in
    record { value = h; refused = into_refused text r h; packed = into_packed text r h }
