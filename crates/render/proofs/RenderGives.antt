-- What the call that writes a sheet answers and leaves, by what was found out on the way.
use Prim.Native.Nat.{ℕ, ◌≤◌, ◌<◌}
use mathlib.Core.Path.{◌≡◌, refl, sym, ap, ◌∙◌}
use mathlib.Core.List.{List, ◌++◌}
use borrow.Author.Tests.{le-leb, lt-leb}
use lib.Dec.{leb}
use lib.ListN.{length, drop}
use Rattle.table.specs.declared.refusal.Refusal.{Refusal}
use Rattle.table.specs.declared.refusal.Refusal.TheVariants.{ShortBuffer}
use Rattle.table.specs.Verdict.{Verdict, require}
use Rattle.std.specs.Prelude.{Ok, Err}
use Rattle.table.specs.Accept.{table_verdict}
use Rattle.table.specs.Facts.{IsTable}
use Rattle.table.specs.Refused.{TableRefused}
use Rattle.table.proofs.Buffer.{front_written}
use Rattle.table.proofs.Bytes.{Bytes}
use Rattle.table.proofs.Verdicts.{then_refused, then_next}
use Rattle.sheet.specs.Form.{render}
use Rattle.reader.specs.Read.{ReadResult, read_result, filled}
use Rattle.render.specs.Render.{sheet_of, render_verdict, render_answer, render_buffer}
use Rattle.render.specs.Exact.{RenderIsExact, RenderRefused}
use Rattle.render.proofs.RoundTrip.{sheet_of_table}

module _ (table out : List ℕ) where
  -- an answer, and the buffer that goes with it
  abbrev pub RenderGives : ReadResult → List ℕ → Type 0
  RenderGives r after = (r ≡ render_answer table out) × (after ≡ render_buffer table out)

  abbrev text : List ℕ
  text = render (sheet_of table)

  gives : (w : Verdict) → render_verdict table (length out) ≡ w → RenderGives (read_result w text) (filled w text out)
  gives w h = (ap (λ (x : Verdict). read_result x text) (sym h), ap (λ (x : Verdict). filled x text out) (sym h))

  -- refused by the table's tests
  pub not_accepted : (r : Refusal) → table_verdict table ≡ Err r → RenderGives (Err r) out
  unfolding render_verdict
  not_accepted r h =
      gives (Err r) (then_refused (table_verdict table) (require ShortBuffer (leb (length text) (length out))) r h ∙ h)

  -- a sheet that does not fit the lent buffer
  pub no_room : table_verdict table ≡ Ok tt → length out < length text → RenderGives (Err ShortBuffer) out
  unfolding render_verdict
  no_room h l =
      gives (Err ShortBuffer) (then_next (table_verdict table) (require ShortBuffer (leb (length text) (length out))) h
      ∙ ap (require ShortBuffer) (lt-leb (length text) (length out) l))

  -- a sheet that fits
  pub all-written : table_verdict table ≡ Ok tt → length text ≤ length out
      → RenderGives (Ok (length text)) (text ++ drop (length text) out)
  unfolding render_verdict
  all-written h l =
      gives (Ok tt) (then_next (table_verdict table) (require ShortBuffer (leb (length text) (length out))) h
      ∙ ap (require ShortBuffer) (le-leb (length text) (length out) l))

-- a table's refusal is that of the call, and never 10
pub no_table : (table : List ℕ) (room : ℕ) (r : Refusal) → TableRefused table r → RenderRefused table room r
no_table table room ShortBuffer t = absurd t
no_table table room r t = t

-- a sheet of k bytes that was written
pub exact : (table : List ℕ) → Bytes table → IsTable table → (before : List ℕ) {k : ℕ}
    → k ≡ length (render (sheet_of table)) → length (render (sheet_of table)) ≤ length before
    → RenderIsExact table k before (render (sheet_of table) ++ drop (length (render (sheet_of table))) before)
exact table b is before size fits =
    record {
      is_table = is;
      text = render (sheet_of table);
      sheet = sheet_of_table table b is;
      size = sym size;
      written = front_written (render (sheet_of table)) before (length (render (sheet_of table))) refl fits;
    }
