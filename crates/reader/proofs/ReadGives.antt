-- What Read answers and leaves, by what was found out on the way.
use Prim.Native.Nat.{ℕ, ◌≤◌, ◌<◌}
use mathlib.Core.Path.{◌≡◌, refl, sym, ap, ◌∙◌}
use mathlib.Core.Bool.{Bool, true, false}
use mathlib.Core.List.{List}
use native.Mathlib.Omega.{arith}
use borrow.Author.Tests.{le-leb, lt-leb}
use lib.Dec.{leb}
use lib.ListN.{length}
use Rattle.table.specs.declared.refusal.Refusal.{Refusal}
use Rattle.table.specs.declared.refusal.Refusal.TheVariants.{SheetForm, Counts as CountsRefused, ShortBuffer}
use Rattle.table.specs.Verdict.{Verdict, require}
use Rattle.std.specs.Prelude.{Option, Some, None, Ok, Err}
use Rattle.table.specs.Table.{counts_of, packed_length}
use Rattle.table.specs.Accept.{counts_fit, table_verdict}
use Rattle.table.proofs.Facts.{counts_within}
use Rattle.table.proofs.Verdicts.{then_refused, then_next}
use Rattle.sheet.specs.Form.{Sheet, InRange}
use Rattle.sheet.specs.Parse.{parse}
use Rattle.reader.specs.Read.{
  pack,
  packed,
  ReadResult,
  sheet_verdict,
  read_verdict,
  read_result,
  filled,
  read_answer,
  read_buffer,
}
use Rattle.reader.proofs.PackedSheet.{pack-length, counts_pack}

-- the answer and the buffer that go with a verdict
module _ (text out : List ℕ) where
  abbrev pub ReadGives : ReadResult → List ℕ → Type 0
  ReadGives r after = (r ≡ read_answer text out) × (after ≡ read_buffer text out)

  pub answered : (w : Verdict) → read_verdict text (length out) ≡ w → (t : List ℕ) → packed (parse text) ≡ t
      → ReadGives (read_result w t) (filled w t out)
  answered w h t e = (λ i. read_result (sym h i) (sym e i), λ i. filled (sym h i) (sym e i) out)

module _ (text : List ℕ) (room : ℕ) where
  -- test 1
  pub not_of_form : parse text ≡ None → read_verdict text room ≡ Err SheetForm
  unfolding read_verdict
  not_of_form e = ap (λ (p : Option Sheet). sheet_verdict p room) e

  module _ (v : Sheet) (e : parse text ≡ Some v) where
    abbrev test_10 : Verdict
    test_10 = require ShortBuffer (leb (length (pack v)) room)

    of_sheet : (w : Verdict) → sheet_verdict (Some v) room ≡ w → read_verdict text room ≡ w
    unfolding read_verdict
    of_sheet w h = ap (λ (p : Option Sheet). sheet_verdict p room) e ∙ h

    -- refused by the table's tests
    pub table_refused : (r : Refusal) → table_verdict (pack v) ≡ Err r → read_verdict text room ≡ Err r
    table_refused r h = of_sheet (Err r) (then_refused (table_verdict (pack v)) test_10 r h ∙ h)

    -- a table that does not fit the lent buffer
    pub too_short : table_verdict (pack v) ≡ Ok tt → room < length (pack v) → read_verdict text room ≡ Err ShortBuffer
    too_short h l = of_sheet (Err ShortBuffer)
        (then_next (table_verdict (pack v)) test_10 h ∙ ap (require ShortBuffer) (lt-leb (length (pack v)) room l))

    -- an accepted table that fits
    pub accepted_read : table_verdict (pack v) ≡ Ok tt → length (pack v) ≤ room → read_verdict text room ≡ Ok tt
    accepted_read h l = of_sheet (Ok tt)
        (then_next (table_verdict (pack v)) test_10 h ∙ ap (require ShortBuffer) (le-leb (length (pack v)) room l))

-- a table of more than 580 bytes has a count out of its range
pub too_long : (v : Sheet) → InRange v → 580 < packed_length v.counts → table_verdict (pack v) ≡ Err CountsRefused
unfolding table_verdict
too_long v h l =
    let n = pack-length v h in
    let out : counts_fit (counts_of (pack v)) ≡ false =
    ap counts_fit (counts_pack v) ∙ no_fit (counts_fit v.counts) refl in
    simp (le-leb 4 (length (pack v)) (omega arith), out)
  where
    no_fit : (b : Bool) → counts_fit v.counts ≡ b → b ≡ false
    no_fit true e = let w = counts_within v.counts e in absurd (omega arith)
    no_fit false e = refl
