-- What was found out of a text, and with it what Read's answer means.
use Prim.Native.Nat.{ℕ, ◌≤◌, ◌<◌}
use mathlib.Core.Path.{◌≡◌, refl, sym, ap, subst, ◌∙◌}
use mathlib.Core.Bool.{false≢true}
use mathlib.Core.Logic.{◌↔◌, inl, inr}
use mathlib.Core.List.{List, ◌++◌}
use native.Mathlib.Decide.{dec_lt}
use native.Mathlib.Omega.{arith}
use lib.ListN.{length, take, drop}
use Rattle.std.specs.Prelude.{Option, Some, None, Result, Ok, Err, IsOk, IfOk, IfErr}
use Rattle.table.specs.declared.refusal.Refusal.{Refusal}
use Rattle.table.specs.declared.refusal.Refusal.TheVariants.{SheetForm, Length, ShortBuffer}
use Rattle.table.specs.Verdict.{Verdict}
use Rattle.table.specs.Table.{packed_length}
use Rattle.table.specs.Accept.{table_verdict}
use Rattle.table.specs.Facts.{IsTable}
use Rattle.table.specs.Refused.{TableRefused}
use Rattle.table.specs.declared.accepted.Accepted.{Accepted}
use Rattle.table.specs.From.{AcceptedFrom}
use Rattle.table.proofs.Facts.{accepted}
use Rattle.table.proofs.Verdicts.{refused}
use Rattle.table.proofs.Refused.{is_table, table_refused as why_refused}
use Rattle.table.proofs.Buffer.{front_written}
use Rattle.sheet.specs.Form.{Sheet, InRange, IsSheet}
use Rattle.sheet.specs.Parse.{parse}
use Rattle.sheet.proofs.Whole.{parse_exact, sheet_parses, none_some}
use Rattle.reader.specs.Read.{pack, packed, read_result, read_verdict, PackedText, ReadInto}
use Rattle.reader.specs.Exact.{SheetOf, Readable, ReadIsExact, TextRefused, ReadRefused}
use Rattle.reader.proofs.PackedSheet.{pack-length, counts_pack}
use Rattle.reader.proofs.ReadGives.{not_of_form, table_refused, too_short, accepted_read}

-- 2 is for no sheet's table
no_length : (v : Sheet) → InRange v → TableRefused (pack v) Length → ⊥
no_length v h (inl few) = absurd (omega (arith, few, pack-length v h))
no_length v h (inr r) = r.2 (pack-length v h ∙ sym (ap packed_length (counts_pack v)))

-- ---- what was found out

data Found (text : List ℕ) : Type 0 where
  no_sheet : parse text ≡ None → Found text
  bad : (v : Sheet) → parse text ≡ Some v → (r : Refusal) → table_verdict (pack v) ≡ Err r → Found text
  good : (v : Sheet) → parse text ≡ Some v → table_verdict (pack v) ≡ Ok tt → Found text

found : (text : List ℕ) → Found text
found text = by_form (parse text) refl
  where
    by_tests : (v : Sheet) → parse text ≡ Some v → (w : Verdict) → table_verdict (pack v) ≡ w → Found text
    by_tests v e (Ok tt) h = good v e h
    by_tests v e (Err r) h = bad v e r h

    by_form : (p : Option Sheet) → parse text ≡ p → Found text
    by_form None e = no_sheet e
    by_form (Some v) e = by_tests v e (table_verdict (pack v)) refl

-- two verdicts on one thing
one_refusal : {w : Verdict} {q r : Refusal} → w ≡ Err q → w ≡ Err r → q ≡ r
one_refusal p q = let same : ◌≡◌ {A = Verdict} (Err _) (Err _) = sym p ∙ q in cc

not_both : {w : Verdict} {r : Refusal} → w ≡ Ok tt → w ≡ Err r → ⊥
not_both {r = r} p q = refused r (sym q ∙ p)

-- 580 bytes are room enough
pub room_enough : (text : List ℕ) (v : Sheet) → parse text ≡ Some v → table_verdict (pack v) ≡ Ok tt
    → read_verdict text 580 ≡ Ok tt
room_enough text v e h = accepted_read text 580 v e h (accepted (pack v) h).short

module _ (text : List ℕ) where
  sheet_of_parsed : (v : Sheet) → parse text ≡ Some v → SheetOf text (pack v)
  sheet_of_parsed v e = let f = (parse_exact text v).0 e in (v, f.0, f.1, refl)

  -- ---- refused with room enough

  by_refusal : (v : Sheet) → parse text ≡ Some v → (r : Refusal) → TableRefused (pack v) r → TextRefused text r
  by_refusal v e SheetForm t = absurd t
  by_refusal v e Length t = absurd (no_length v ((parse_exact text v).0 e).0 t)
  by_refusal v e r t = (pack v, sheet_of_parsed v e, t)

  -- the refusal says why
  pub text_refused : (r : Refusal) → read_verdict text 580 ≡ Err r → TextRefused text r
  text_refused r h = go (found text)
    where
      go : Found text → TextRefused text r
      go (no_sheet e) =
          let nothing : ¬ IsSheet text = λ s. (let p = (sheet_parses text).0 s in none_some p.0 (sym e ∙ p.1)) in
          subst (TextRefused text) (one_refusal (not_of_form text 580 e) h) nothing
      go (bad v e q t) = subst (TextRefused text) (one_refusal (table_refused text 580 v e q t) h)
          (by_refusal v e q (why_refused (pack v) q t))
      go (good v e t) = absurd (not_both (room_enough text v e t) h)

  -- and it is the refusal in any room, never 10
  pub any_room : (room : ℕ) (r : Refusal) → read_verdict text 580 ≡ Err r → read_verdict text room ≡ Err r
  any_room room r h = go (found text)
    where
      go : Found text → read_verdict text room ≡ Err r
      go (no_sheet e) = not_of_form text room e ∙ ap Err (one_refusal (not_of_form text 580 e) h)
      go (bad v e q t) = table_refused text room v e q t ∙ ap Err (one_refusal (table_refused text 580 v e q t) h)
      go (good v e t) = absurd (not_both (room_enough text v e t) h)

  in_room : (room : ℕ) (r : Refusal) → TextRefused text r → ReadRefused text room r
  in_room room ShortBuffer t = absurd t.2
  in_room room r t = t

  pub read_refused : (room : ℕ) (r : Refusal) → read_verdict text 580 ≡ Err r → ReadRefused text room r
  read_refused room r h = in_room room r (text_refused r h)

  -- ---- accepted with room enough

  pub found_good : read_verdict text 580 ≡ Ok tt
      → (v : Sheet) × (parse text ≡ Some v) × (table_verdict (pack v) ≡ Ok tt)
  found_good h = go (found text)
    where
      go : Found text → (v : Sheet) × (parse text ≡ Some v) × (table_verdict (pack v) ≡ Ok tt)
      go (no_sheet e) = absurd (not_both h (not_of_form text 580 e))
      go (bad v e r t) = absurd (not_both h (table_refused text 580 v e r t))
      go (good v e t) = (v, e, t)

  module _ (h : read_verdict text 580 ≡ Ok tt) {table : List ℕ} (same : table ≡ packed (parse text)) where
    abbrev v : Sheet
    v = (found_good h).0

    abbrev form : parse text ≡ Some v
    form = (found_good h).1

    packed_is : table ≡ pack v
    packed_is = same ∙ ap packed form

    pub the_sheet : SheetOf text table
    the_sheet = subst (SheetOf text) (sym packed_is) (sheet_of_parsed v form)

    pub the_table : IsTable table
    the_table = subst IsTable (sym packed_is) ((is_table (pack v)).0 (found_good h).2)

    pub no_room : (room : ℕ) → room < length table → read_verdict text room ≡ Err ShortBuffer
    no_room room l = too_short text room v form (found_good h).2 (subst (λ (t : List ℕ). room < length t) packed_is l)

    pub room_refused : (room : ℕ) → room < length table → ReadRefused text room ShortBuffer
    room_refused room l = (table, the_sheet, the_table, l)

    pub has_room : (room : ℕ) → length table ≤ room → read_verdict text room ≡ Ok tt
    has_room room l =
        accepted_read text room v form (found_good h).2 (subst (λ (t : List ℕ). length t ≤ room) packed_is l)

    pub exact : (before : List ℕ) → length table ≤ length before
        → ReadIsExact text (length table) before (table ++ drop (length table) before)
    exact before l = record {
      table = table;
      sheet = the_sheet;
      is_table = the_table;
      size = refl;
      fits = l;
      written = front_written table before (length table) refl l;
    }

  -- ---- accepted in a room: exactly a sheet whose table is one and has room there

  module _ (room : ℕ) where
    readable : Readable text room → read_verdict text room ≡ Ok tt
    readable (table, (w, range, is_text, same), is, fits) =
        accepted_read text room w ((parse_exact text w).1 (range, is_text))
        (subst (λ (t : List ℕ). table_verdict t ≡ Ok tt) same ((is_table _).1 is))
        (subst (λ (t : List ℕ). length t ≤ room) same fits)

    read_back : read_verdict text room ≡ Ok tt → Readable text room
    read_back h = go (found text)
      where
        go : Found text → Readable text room
        go (no_sheet e) = absurd (not_both h (not_of_form text room e))
        go (bad v e r t) = absurd (not_both h (table_refused text room v e r t))
        go (good v e t) =
            elim (dec_lt room (length (pack v))) [
              | yes short ↦ absurd (not_both h (too_short text room v e t short))
              | no long ↦ (pack v, sheet_of_parsed v e, (is_table (pack v)).0 t, omega (arith, long))
            ]

    pub accepted_just : (w : Verdict) → read_verdict text room ≡ w → (table : List ℕ) → IsOk (read_result w table)
        ↔ Readable text room
    accepted_just (Ok tt) h table = (λ ok. read_back h, λ r. refl)
    accepted_just (Err r) h table = (λ ok. absurd (false≢true ok), λ x. absurd (refused r (sym h ∙ readable x)))

-- what the tests of a packed sheet gave, as what was read
by_tests_of : (text : List ℕ) (v : Sheet) → parse text ≡ Some v → (r : Result Accepted Refusal)
    → AcceptedFrom (pack v) r → ReadInto text r
by_tests_of text v e (Ok a) f = (room_enough text v e ((is_table (pack v)).1 f.1), f.0 ∙ ap packed (sym e))
by_tests_of text v e (Err r) f = table_refused text 580 v e r f.0

-- the same of the bytes that a text was packed to
pub packed_tested : (text bytes : List ℕ) (n : ℕ) → PackedText text bytes (Ok n) → (r : Result Accepted Refusal)
    → AcceptedFrom (take n bytes) r → ReadInto text r
packed_tested text bytes n (few, (w, e, same)) r f =
    by_tests_of text w e r (subst (λ (l : List ℕ). AcceptedFrom l r) same f)

-- why it was refused, and which table was read
pub into_refused : (text : List ℕ) (r : Result Accepted Refusal) → ReadInto text r → IfErr r (TextRefused text)
into_refused text (Ok a) h = tt
into_refused text (Err r) h = text_refused text r h

pub into_packed : (text : List ℕ) (r : Result Accepted Refusal) → ReadInto text r
    → IfOk r (λ table. SheetOf text table.bytes.now × IsTable table.bytes.now)
into_packed text (Ok a) h = (the_sheet text h.0 h.1, the_table text h.0 h.1)
into_packed text (Err r) h = tt
