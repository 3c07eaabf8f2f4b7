-- What a printed text tells: which refusal it is, and that no list is a repair where it says none.
use Prim.Native.Nat.{ℕ, ◌+◌, ◌*◌, ◌≤◌, ◌<◌}
use mathlib.Core.Path.{◌≡◌, refl, sym, ap, subst, ◌∙◌}
use mathlib.Core.Logic.{inl, inr}
use mathlib.Core.Bool.{cond}
use mathlib.Core.List.{List, ◌++◌}
use native.Mathlib.Decide.{dec_lt}
use native.Mathlib.Omega.{arith}
use lib.Dec.{eqb}
use lib.ListN.{length, get_or}
use Rattle.std.specs.Prelude.{Option, Some, None, Ok, Err}
use Rattle.table.specs.declared.refusal.Refusal.{Refusal}
use Rattle.table.specs.declared.refusal.Refusal.TheVariants.{
  SheetForm,
  Length,
  Counts,
  StateRecord,
  NoInitial,
  StepEnd,
  RepeatedStep,
  NodeRecord,
  ListForm,
  ShortBuffer,
  NotTotal,
  NoInitialKept,
  RootFails,
  UnreachedStep,
  NotTables,
}
use Rattle.table.specs.Table.{table_of}
use Rattle.table.specs.Accept.{table_verdict}
use Rattle.table.specs.Facts.{IsTable}
use Rattle.table.specs.Refused.{TableRefused}
use Rattle.table.proofs.Refused.{is_table}
use Rattle.ctl.specs.Kept.{Repair}
use Rattle.circuit.specs.Variables.{variable_formula}
use Rattle.sheet.specs.Form.{Sheet, IsSheet, ascii, line, digits, decimal}
use Rattle.sheet.specs.Parse.{parse}
use Rattle.sheet.proofs.Whole.{parse_exact, sheet_parses}
use Rattle.reader.specs.Read.{pack, packed}
use Rattle.reader.specs.Exact.{SheetOf}
use Rattle.reader.proofs.ReadGives.{not_of_form, table_refused}
use Rattle.reader.proofs.Found.{room_enough}
use Rattle.report.specs.Texts.{refused, cap}
use Rattle.report.specs.Report.{table_text, fit_text}
use Rattle.report.specs.Exact.{FitTable, FitRefused, TableSays, FitSays, NoneSays, RefusedSays}
use Rattle.report.proofs.Cases.{too_long, text_read}
use Rattle.report.proofs.Back.{refused_back}
use Rattle.report.proofs.Says.{too_many, fit_says}

-- ---- which refusal

-- the digits of the number of a refusal, at 22 and 23, tell which one it is
abbrev refusal_by : ℕ → Refusal
refusal_by n =
    cond (eqb n 4910) SheetForm
    (cond (eqb n 5010) Length
    (cond (eqb n 5110) Counts
    (cond (eqb n 5210) StateRecord
    (cond (eqb n 5310) NoInitial
    (cond (eqb n 5410) StepEnd
    (cond (eqb n 5510) RepeatedStep
    (cond (eqb n 5610) NodeRecord
    (cond (eqb n 5710) ListForm
    (cond (eqb n 4948) ShortBuffer
    (cond (eqb n 4949) NotTotal
    (cond (eqb n 4950) NoInitialKept
    (cond (eqb n 4951) RootFails
    (cond (eqb n 4954) UnreachedStep NotTables)))))))))))))

abbrev refusal_in : List ℕ → Refusal
refusal_in text = refusal_by (100 * get_or text 22 0 + get_or text 23 0)

told : (r : Refusal) → refusal_in (refused r) ≡ r
unfolding digits decimal line
told SheetForm = refl
told Length = refl
told Counts = refl
told StateRecord = refl
told NoInitial = refl
told StepEnd = refl
told RepeatedStep = refl
told NodeRecord = refl
told ListForm = refl
told ShortBuffer = refl
told NotTotal = refl
told NoInitialKept = refl
told RootFails = refl
told UnreachedStep = refl
told NotTables = refl

same_refusal : (q r : Refusal) → refused q ≡ refused r → q ≡ r
same_refusal q r e = sym (told q) ∙ ap refusal_in e ∙ told r

-- ---- a byte in which two texts differ

pub differ : {A : Type 0} (xs ys : List ℕ) (at x y : ℕ) → get_or xs at 0 ≡ x → get_or ys at 0 ≡ y → ¬ (x ≡ y)
    → xs ≡ ys → A
differ xs ys at x y p q n e = absurd (n (sym p ∙ ap (λ (l : List ℕ). get_or l at 0) e ∙ q))

-- no text of a table is that of a refusal: at 7 they name the choices and the number
not_refused : {A : Type 0} (most : ℕ) (table printed : List ℕ) (r : Refusal)
    → TableSays most table printed → printed ≡ refused r → A
not_refused most table printed r (inl of_none) e = differ _ _ 7 99 110 refl refl (omega arith) (sym of_none.text ∙ e)
not_refused most table printed r (inr (inl of_spent)) e =
    differ _ _ 7 99 110 refl refl (omega arith) (sym of_spent.text ∙ e)
not_refused most table printed r (inr (inr of_found)) e =
    differ _ _ 7 99 110 refl refl (omega arith) (sym of_found.text ∙ e)

-- ---- none

no_repair : (most : ℕ) (table printed rest : List ℕ)
    → TableSays most table printed → printed ≡ ascii "answer choices price\n" ++ (ascii "none " ++ rest)
    → (list : List ℕ) → ¬ Repair (table_of table) list
no_repair most table printed rest (inl of_none) e = of_none.no_repair
no_repair most table printed rest (inr (inl of_spent)) e =
    differ _ _ 21 115 110 refl refl (omega arith) (sym of_spent.text ∙ e)
no_repair most table printed rest (inr (inr of_found)) e =
    differ _ _ 21 102 110 refl refl (omega arith) (sym of_found.text ∙ e)

pub none_says : (text : List ℕ) → NoneSays text (fit_text text)
none_says text rest e = by (fit_says text)
  where
    by : FitSays text (fit_text text)
        → (table : List ℕ) × FitTable text table × ((list : List ℕ) → ¬ Repair (table_of table) list)
    by (inl (r, why, is)) = differ _ _ 7 110 99 refl refl (omega arith) (sym is ∙ e)
    by (inr (table, fits, says)) = (table, fits, no_repair cap table (fit_text text) rest says e)

-- ---- refused

module _ (text : List ℕ) where
  there : (r : Refusal) → fit_text text ≡ refused r → FitRefused text r
  there r e = by (fit_says text)
    where
      by : FitSays text (fit_text text) → FitRefused text r
      by (inl (q, why, is)) = subst (FitRefused text) (same_refusal q r (sym is ∙ e)) why
      by (inr (table, fits, says)) = not_refused cap table (fit_text text) r says e

  -- a text that is no sheet
  no_sheet : ¬ IsSheet text → (p : Option Sheet) → parse text ≡ p → p ≡ None
  no_sheet n None e = refl
  no_sheet n (Some v) e = absurd (n ((sheet_parses text).1 (v, e)))

  -- a sheet whose table fails a test
  by_table : (r : Refusal) → length text ≤ 4096 → (table : List ℕ) → SheetOf text table → TableRefused table r
      → fit_text text ≡ refused r
  by_table r short table (v, range, e, same) t =
      let form : parse text ≡ Some v = (parse_exact text v).1 (range, e) in
      let why : TableRefused (pack v) r = subst (λ (l : List ℕ). TableRefused l r) same t in
      text_read text short (Err r) (table_refused text 580 v form r (refused_back (pack v) r why))

  -- a text that is too long or no sheet
  by_form : FitRefused text SheetForm → fit_text text ≡ refused SheetForm
  by_form (inl long) = too_long text long
  by_form (inr n) = elim (dec_lt 4096 (length text)) [
    | yes long ↦ too_long text long
    | no not_long ↦ (let short : length text ≤ 4096 = omega (arith, not_long) in
        text_read text short (Err SheetForm) (not_of_form text 580 (no_sheet n (parse text) refl)))
  ]

  -- a sheet whose table has a circuit of too many variables
  by_room : length text ≤ 4096 → (table : List ℕ) → SheetOf text table → IsTable table
      → 10000 < variable_formula (table_of table) → fit_text text ≡ refused ShortBuffer
  by_room short table (v, range, e, same) is many =
      let form : parse text ≡ Some v = (parse_exact text v).1 (range, e) in
      text_read text short (Ok tt) (room_enough text v form (ap table_verdict (sym same) ∙ (is_table table).1 is))
      ∙ ap (table_text cap) (ap packed form ∙ sym same)
      ∙ too_many cap table is many

  back : (r : Refusal) → FitRefused text r → fit_text text ≡ refused r
  back SheetForm t = by_form t
  back Length t = absurd t
  back ShortBuffer t = by_room t.0 t.1.0 t.1.1 t.1.2 t.1.3
  back r t = by_table r t.0 t.1.0 t.1.1 t.1.2

  pub refused_says : RefusedSays text (fit_text text)
  refused_says r = (there r, back r)
