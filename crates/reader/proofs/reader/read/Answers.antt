-- `read` meets its contract: what was read into its own bytes is refused in any room, and an accepted table only
-- where it has none.
use mathlib.Core.Path.{◌≡◌, refl, sym, ap, subst, ◌∙◌}
use mathlib.Core.Logic.{◌↔◌}
use mathlib.Core.List.{List, [], ◌++◌}
use lib.ListN.{length, take, drop}
use Prim.Native.Nat.{ℕ, ◌≤◌}
use Rattle.std.proofs.Common.{rules, Ok, Err}
use Rattle.std.specs.Prelude.{Result, IsOk, IfErr}
use Rattle.table.specs.declared.refusal.Refusal.{Refusal}
use Rattle.reader.specs.Exact.{Readable, ReadIsExact, ReadRefused}
use Rattle.reader.specs.Read.{read_verdict, read_answer, read_buffer}
use Rattle.reader.proofs.ReadGives.{answered}
use Rattle.reader.proofs.Found.{
  any_room,
  read_refused,
  no_room,
  room_refused,
  has_room,
  exact,
  accepted_just,
  packed_tested,
}
use Rattle.reader.proofs.reader.read.Goals as goal

-- what each clause says of a text that is refused in any room
module _ (text out : List ℕ) (r : Refusal) (h : read_verdict text 580 ≡ Err r) {result : Result ℕ Refusal}
    (e : result ≡ Err r) where
  value_then : result ≡ read_answer text out
  value_then = e ∙ (answered text out _ (any_room text _ _ h) _ refl).0

  after_then : out ≡ read_buffer text out
  after_then = (answered text out _ (any_room text _ _ h) _ refl).1

  accepted_then : IsOk result ↔ Readable text (length out)
  accepted_then = subst (λ (r : Result ℕ Refusal). IsOk r ↔ Readable text (length out)) (sym e)
      (accepted_just text (length out) _ (any_room text (length out) _ h) [])

  refused_then : IfErr result (ReadRefused text (length out))
  refused_then = subst (λ (r : Result ℕ Refusal). IfErr r (ReadRefused text (length out))) (sym e)
      (read_refused text (length out) r h)

pub returns-in_err-length-clause-value : goal.returns-in_err-length-clause-value
returns-in_err-length-clause-value c =
    let e : c.from_residual.result ≡ Err c.in_err-length.field-0.0 = search rules in
    value_then c.args.text.now c.args.out.now _ c.in_err-length.ensures e

pub returns-in_err-length-clause-out_after : goal.returns-in_err-length-clause-out_after
returns-in_err-length-clause-out_after c =
    let e : c.from_residual.result ≡ Err c.in_err-length.field-0.0 = search rules in
    after_then c.args.text.now c.args.out.now _ c.in_err-length.ensures e

pub returns-in_err-length-clause-accepted : goal.returns-in_err-length-clause-accepted
returns-in_err-length-clause-accepted c =
    let e : c.from_residual.result ≡ Err c.in_err-length.field-0.0 = search rules in
    accepted_then c.args.text.now c.args.out.now _ c.in_err-length.ensures e

pub returns-in_err-length-clause-refused : goal.returns-in_err-length-clause-refused
returns-in_err-length-clause-refused c =
    let e : c.from_residual.result ≡ Err c.in_err-length.field-0.0 = search rules in
    refused_then c.args.text.now c.args.out.now _ c.in_err-length.ensures e

pub returns-in_err-try_from-clause-value : goal.returns-in_err-try_from-clause-value
returns-in_err-try_from-clause-value c =
    let e : c.from_residual-in_err-try_from.result ≡ Err c.in_err-try_from.field-0.0 = search rules in
    value_then c.args.text.now c.args.out.now _
    (packed_tested c.args.text.now _ _ c.in_ok-length.ensures (Err c.in_err-try_from.field-0.0)
    c.in_err-try_from.ensures)
    e

pub returns-in_err-try_from-clause-out_after : goal.returns-in_err-try_from-clause-out_after
returns-in_err-try_from-clause-out_after c =
    let e : c.from_residual-in_err-try_from.result ≡ Err c.in_err-try_from.field-0.0 = search rules in
    after_then c.args.text.now c.args.out.now _
    (packed_tested c.args.text.now _ _ c.in_ok-length.ensures (Err c.in_err-try_from.field-0.0)
    c.in_err-try_from.ensures)
    e

pub returns-in_err-try_from-clause-accepted : goal.returns-in_err-try_from-clause-accepted
returns-in_err-try_from-clause-accepted c =
    let e : c.from_residual-in_err-try_from.result ≡ Err c.in_err-try_from.field-0.0 = search rules in
    accepted_then c.args.text.now c.args.out.now _
    (packed_tested c.args.text.now _ _ c.in_ok-length.ensures (Err c.in_err-try_from.field-0.0)
    c.in_err-try_from.ensures)
    e

pub returns-in_err-try_from-clause-refused : goal.returns-in_err-try_from-clause-refused
returns-in_err-try_from-clause-refused c =
    let e : c.from_residual-in_err-try_from.result ≡ Err c.in_err-try_from.field-0.0 = search rules in
    refused_then c.args.text.now c.args.out.now _
    (packed_tested c.args.text.now _ _ c.in_ok-length.ensures (Err c.in_err-try_from.field-0.0)
    c.in_err-try_from.ensures)
    e

pub returns-then-out-table : goal.returns-then-out-table
returns-then-out-table c =
    let text = c.args.text.now in
    let out = c.args.out.now in
    let h = packed_tested text _ _ c.in_ok-length.ensures (Ok c.in_ok-try_from.field-0) c.in_ok-try_from.ensures in
    let same = sym c.in_ok-try_from.ensures.0 ∙ h.1 in
    let o = answered text out _ (no_room text h.0 same (length out) c.if-out-table.true) _ refl in
    record {
      value = o.0;
      out_after = o.1;
      accepted = accepted_just text (length out) _ (no_room text h.0 same (length out) c.if-out-table.true) [];
      refused = room_refused text h.0 same (length out) c.if-out-table.true;
      packed = tt;
      untouched = refl;
    }

pub returns : goal.returns
returns c =
    let text = c.args.text.now in
    let out = c.args.out.now in
    let h = packed_tested text _ _ c.in_ok-length.ensures (Ok c.in_ok-try_from.field-0) c.in_ok-try_from.ensures in
    let same = sym c.in_ok-try_from.ensures.0 ∙ h.1 in
    let table = take c.in_ok-length.length c.pack_text.new.packed in
    let fits : length table ≤ length out = c.if-out-table.false in
    let written = ap (λ (l : List ℕ). l ++ drop (length table) out) c.copy_from_slice.ensures.after in
    let o = answered text out _ (has_room text h.0 same (length out) fits) _ (sym same) in
    record {
      value = o.0;
      out_after = written ∙ o.1;
      accepted = accepted_just text (length out) _ (has_room text h.0 same (length out) fits) table;
      refused = tt;
      packed = subst (ReadIsExact text (length table) out) (sym written) (exact text h.0 same out fits);
      untouched = tt;
    }
