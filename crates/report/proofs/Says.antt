-- What is printed, in the words of sheets, tables and repairs.
use Prim.Native.Nat.{ℕ, ◌≤◌, ◌<◌}
use mathlib.Core.Path.{◌≡◌, refl, sym, ap, subst, ◌∙◌}
use mathlib.Core.Logic.{inl, inr}
use mathlib.Core.List.{List, [], ◌∷◌, ◌++◌}
use Rattle.std.specs.Prelude.{Option, None as none, Some as some}
use native.Mathlib.Decide.{dec_lt}
use native.Mathlib.Omega.{arith}
use lib.ListN.{length, take, length-replicate}
use Rattle.std.specs.Prelude.{Ok, Err}
use Rattle.table.specs.declared.record.Step.{Step}
use Rattle.table.specs.declared.refusal.Refusal.{Refusal}
use Rattle.table.specs.declared.refusal.Refusal.TheVariants.{SheetForm, Length, ShortBuffer}
use Rattle.table.specs.Verdict.{Verdict}
use Rattle.table.specs.Buffer.{on_accepted}
use Rattle.table.specs.Table.{Table, table_of, steps_of}
use Rattle.table.specs.Facts.{IsTable}
use Rattle.table.proofs.Refused.{is_table}
use Rattle.circuit.specs.Variables.{variable_formula}
use Rattle.search.specs.TableSearch.{search_under, search_free}
use Rattle.search.specs.Right.{choices, SearchIsRight}
use Rattle.search.specs.declared.answer.Answer.{Answer}
use Rattle.search.specs.declared.answer.Answer.TheVariants.{Found, None, Spent, Refused}
use Rattle.search.proofs.Right.{search_is_right}
use Rattle.sheet.specs.Form.{ascii}
use Rattle.sheet.specs.Parse.{parse}
use Rattle.reader.specs.Read.{packed, read_verdict}
use Rattle.reader.specs.Exact.{SheetOf, TextRefused}
use Rattle.reader.proofs.Found.{text_refused, the_sheet, the_table}
use Rattle.repair.specs.Effect.{answer_at, written_after, repair_answer, repair_list}
use Rattle.repair.specs.Right.{RepairIsRight}
use Rattle.repair.proofs.Right.{every_repair_is_right}
use Rattle.repair.proofs.Order.{short_bytes}
use Rattle.report.specs.Texts.{counted, refused, kept_line, kept_lines, found_text, cap}
use Rattle.report.specs.Report.{answer_text, zeros, table_text, verdict_text, fit_text}
use Rattle.report.specs.Exact.{FitTable, FitRefused, TableSays, FitSays}
use Rattle.report.proofs.Cases.{too_long, text_read}

-- the bytes behind those of the steps are not printed
lines_take : (steps : List Step) (list : List ℕ) → kept_lines steps list ≡ kept_lines steps (take (length steps) list)
unfolding kept_lines
lines_take [] list = refl
lines_take (x ∷ steps) [] = refl
lines_take (x ∷ steps) (kept ∷ list) = ap (λ (l : List ℕ). kept_line x kept ++ l) (lines_take steps list)

-- the choices that an answer carries, or does not
carried : (c d : ℕ) → ◌≡◌ {A = Option ℕ} (some c) (some d) → c ≡ d
carried c d e = cc

nothing : {G : Type 0} (c : ℕ) → ◌≡◌ {A = Option ℕ} none (some c) → G
nothing c e = absurd (let z : ◌≡◌ {A = ℕ} 0 1 = cc in omega arith)

-- ---- of a table

module _ (most : ℕ) (table : List ℕ) (is : IsTable table) where
  abbrev T : Table
  T = table_of table

  right_search : SearchIsRight T
  right_search = search_is_right T is.wellformed

  short_list : length T.steps ≤ length (zeros 128)
  short_list = omega (arith, is.wellformed.few_steps, length-replicate {A = ℕ} 128 0)

  -- an answer that is right, with the list that it leaves
  module _ (before after : List ℕ) where
    within : choices (search_free T) ≤ most → (c : ℕ) → some c ≡ some (choices (search_under T most))
        → c ≡ choices (search_free T)
    within h c e = carried _ _ e ∙ ap choices (right_search.same_within most h)

    says_within : (a : Answer) → RepairIsRight table most a before after → choices (search_free T) ≤ most
        → TableSays most table (answer_text table a after)
    says_within (Found p c k) right h =
        inr (inr (record {
          price = p;
          list = take (length T.steps) after;
          found = right.cheapest;
          within = h;
          text =
              (λ i. found_text table p (within h c right.counted i) after)
              ∙ ap
              (λ (l : List ℕ). counted (ascii "found ") (choices (search_free T)) p ++ (ascii "from to kept\n" ++ l))
              (lines_take (steps_of table) after);
        }))
    says_within (None c k) right h = inl (record {
      no_repair = (right.none h).0 tt;
      within = h;
      text = ap (λ n. counted (ascii "none ") n 0) (within h c right.counted);
    })
    says_within (Spent c k) right h = absurd (omega (arith, h, right.spent.0 tt))
    says_within (Refused r) right h = nothing _ right.counted

    over : most < choices (search_free T) → (c : ℕ) → some c ≡ some (choices (search_under T most)) → c ≡ most
    over h c e = carried _ _ e ∙ ap choices (right_search.spent_over most h)

    says_over : (a : Answer) → RepairIsRight table most a before after → most < choices (search_free T)
        → TableSays most table (answer_text table a after)
    says_over (Found p c k) right h = absurd (right.spent.1 h)
    says_over (None c k) right h = absurd (right.spent.1 h)
    says_over (Spent c k) right h =
        inr (inl (record { over = h; text = ap (λ n. counted (ascii "spent ") n 0) (over h c right.counted) }))
    says_over (Refused r) right h = absurd (right.spent.1 h)

    pub answer_says : (a : Answer) → RepairIsRight table most a before after
        → TableSays most table (answer_text table a after)
    answer_says a right = elim (dec_lt most (choices (search_free T))) [
      | yes h ↦ says_over a right h
      | no h ↦ says_within a right (omega (arith, h))
    ]

  pub table_says : variable_formula T ≤ 10000 → TableSays most table (table_text most table)
  unfolding table_text
  table_says few =
      answer_says (zeros 128) (repair_list table most (zeros 128) (zeros 10000) (zeros 10000))
      (repair_answer table most (zeros 128) (zeros 10000) (zeros 10000))
      (every_repair_is_right table most (zeros 128) (zeros 10000) (zeros 10000) (record {
        accepted = is;
        list_long = short_list;
        bytes_long = omega (arith, few, length-replicate {A = ℕ} 10000 0);
        words_long = omega (arith, few, length-replicate {A = ℕ} 10000 0);
      }))

  -- a circuit of too many variables
  pub too_many : 10000 < variable_formula T → table_text most table ≡ refused ShortBuffer
  unfolding table_text
  too_many many =
      ap
      (λ (v : Verdict).
      answer_text table (answer_at v (search_under T most))
      (on_accepted v (written_after T (search_under T most) (zeros 128)) (zeros 128)))
      (short_bytes table (zeros 128) (zeros 10000) (zeros 10000) ((is_table table).1 is) short_list
      (omega (arith, many, length-replicate {A = ℕ} 10000 0)))

-- ---- of a text

module _ (text : List ℕ) (short : length text ≤ 4096) where
  of_short : (r : Refusal) → TextRefused text r → FitRefused text r
  of_short SheetForm t = inr t
  of_short Length t = t
  of_short ShortBuffer t = absurd t.2
  of_short r t = (short, t)

  says_read : (v : Verdict) → read_verdict text 580 ≡ v → FitSays text (verdict_text cap v (packed (parse text)))
  says_read (Err r) e = inl (r, of_short r (text_refused text r e), refl)
  says_read (Ok tt) e = by_size (dec_lt 10000 (variable_formula (table_of table)))
    where
      table : List ℕ
      table = packed (parse text)

      sheet : SheetOf text table
      sheet = the_sheet text e refl

      is : IsTable table
      is = the_table text e refl

      by_size : Dec (10000 < variable_formula (table_of table)) → FitSays text (table_text cap table)
      by_size (yes many) = inl (ShortBuffer, (short, (table, sheet, is, many)), too_many cap table is many)
      by_size (no not_many) =
          let few : variable_formula (table_of table) ≤ 10000 = omega (arith, not_many) in
          let fits : FitTable text table = record {
            short = short;
            sheet = sheet;
            is_table = is;
            few_variables = few;
          } in
          inr (table, fits, table_says cap table is few)

pub fit_says : (text : List ℕ) → FitSays text (fit_text text)
fit_says text = elim (dec_lt 4096 (length text)) [
  | yes long ↦ inl (SheetForm, inl long, too_long text long)
  | no not_long ↦ (let short : length text ≤ 4096 = omega (arith, not_long) in
      let verdict : Verdict = read_verdict text 580 in
      subst (FitSays text) (sym (text_read text short verdict refl)) (says_read text short verdict refl))
]
