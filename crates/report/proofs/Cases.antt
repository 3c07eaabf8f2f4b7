-- What is printed, by what was found out on the way; and bytes stored from the front on.
use Prim.Native.Nat.{ℕ, ◌≤◌, ◌<◌}
use mathlib.Core.Path.{◌≡◌, sym, ap, ◌∙◌}
use mathlib.Core.Bool.{Bool}
use mathlib.Core.List.{List, ◌++◌}
use native.Mathlib.Nat.{zero-add}
use native.Mathlib.Omega.{arith}
use borrow.Author.Tests.{le-leb, lt-leb}
use lib.ListN.{length, drop}
use lib.Seq.{sets-eq}
use Rattle.table.specs.declared.refusal.Refusal.TheVariants.{SheetForm}
use Rattle.std.specs.Prelude.{Result, Ok, Err}
use Rattle.table.specs.declared.accepted.Accepted.{Accepted}
use Rattle.table.specs.declared.refusal.Refusal.{Refusal}
use Rattle.table.specs.Verdict.{Verdict}
use Rattle.sheet.specs.Parse.{parse}
use Rattle.reader.specs.Read.{packed, read_verdict, ReadInto}
use Rattle.render.specs.Stored.{HasRoom, Stored}
use Rattle.report.specs.Texts.{refused, cap}
use Rattle.report.specs.Report.{table_text, verdict_text, limited, text_under, fit_text}
use Rattle.report.proofs.Fits.{text_length}

-- what is printed of a table that was read, or of why it was not
abbrev pub into_text : Result Accepted Refusal → List ℕ
into_text (Ok table) = table_text cap table.bytes.now
into_text (Err r) = refused r

module _ (text : List ℕ) where
  -- longer than 4,096 bytes
  pub too_long : 4096 < length text → fit_text text ≡ refused SheetForm
  unfolding text_under
  too_long h = ap (λ (b : Bool). limited cap b text) (lt-leb (length text) 4096 h)

  -- not longer, and this is the verdict
  module _ (h : length text ≤ 4096) where
    pub text_read : (v : Verdict) → read_verdict text 580 ≡ v → fit_text text ≡ verdict_text cap v (packed (parse text))
    unfolding text_under
    text_read v e =
        ap (λ (b : Bool). limited cap b text) (le-leb (length text) 4096 h)
        ∙ ap (λ (v : Verdict). verdict_text cap v (packed (parse text))) e

    -- what was read into a table or not
    pub text_into : (r : Result Accepted Refusal) → ReadInto text r → fit_text text ≡ into_text r
    text_into (Ok table) e = text_read (Ok tt) e.0 ∙ ap (table_text cap) (sym e.1)
    text_into (Err r) e = text_read (Err r) e

    -- what was read, with what is known of it
    pub text_is : {r q : Result Accepted Refusal} → ReadInto text r → r ≡ q → into_text q ≡ fit_text text
    text_is {r} read e = ap into_text (sym e) ∙ sym (text_into r read)

  -- there is room for all that is printed
  pub text_room : (out : List ℕ) → 2048 ≤ length out → HasRoom out 0 (fit_text text)
  text_room out h = omega (arith, text_length text)

-- the bytes stand at the front, and the rest is as it was
pub stored_front : (before bytes after : List ℕ) (next : ℕ) → HasRoom before 0 bytes → Stored before 0 bytes after next
    → (next ≡ length bytes) × (after ≡ bytes ++ drop (length bytes) before)
stored_front before bytes after next room s = (
  s.place ∙ zero-add (length bytes),
  s.text ∙ sets-eq bytes before 0 room ∙ ap (λ (k : ℕ). bytes ++ drop k before) (zero-add (length bytes)),
)
