-- A printed text of a find tells its price and its list, so that a list is printed only where it is the one found.
use Prim.Native.Nat.{ℕ, ◌+◌, ◌<◌}
use mathlib.Core.Path.{◌≡◌, refl, sym, ap, subst, subst₂, ◌∙◌}
use mathlib.Core.Logic.{inl, inr}
use mathlib.Core.List.{List, [], ◌∷◌, ◌++◌, append_assoc}
use native.Mathlib.Omega.{arith}
use lib.ListN.{length}
use Rattle.std.proofs.lemmas.List.{append_cancel_left}
use Rattle.table.specs.declared.record.Step.{Step}
use Rattle.table.specs.Table.{table_of, steps_of}
use Rattle.sheet.specs.Form.{space, newline, ended, ascii, line}
use Rattle.sheet.specs.Parse.{Parsed, got, field}
use Rattle.sheet.proofs.FieldExact.{field_exact}
use Rattle.sheet.proofs.Whole.{render_injective}
use Rattle.reader.specs.Read.{pack}
use Rattle.reader.specs.Exact.{SheetOf}
use Rattle.repair.specs.Right.{FoundList}
use Rattle.report.specs.Texts.{kept_line, kept_lines, found_text, cap}
use Rattle.report.specs.Report.{fit_text}
use Rattle.report.specs.Exact.{FitTable, TableSays, FitSays, ListSays}
use Rattle.report.proofs.Says.{fit_says}
use Rattle.report.proofs.Printed.{differ}

-- what was read is one value, with one text behind it
got_same : (x y : ℕ) (r s : List ℕ) → ◌≡◌ {A = Parsed ℕ} (got x r) (got y s) → (x ≡ y) × (r ≡ s)
got_same x y r s e = (cc, cc)

-- a value and the byte behind it are told apart from any other, whatever follows
field_same : (stop : ℕ) → stop < 48 → (x y : ℕ) (r s : List ℕ) → ended stop x ++ r ≡ ended stop y ++ s
    → (x ≡ y) × (r ≡ s)
field_same stop low x y r s e =
    let max = 9 + (x + y) in
    let exact = field_exact max stop (omega arith) low in
    got_same x y r s
    (sym (exact.complete x r (omega arith)) ∙ ap (field max stop) e ∙ exact.complete y s (omega arith))

-- a line of two values
two_same : (a b c d : ℕ) (r s : List ℕ) → line (a ∷ b ∷ []) ++ r ≡ line (c ∷ d ∷ []) ++ s → (b ≡ d) × (r ≡ s)
unfolding line
two_same a b c d r s e =
    let first = field_same space (omega arith) a c _ _
    (sym (append_assoc (ended space a) (ended newline b) r) ∙ e ∙ append_assoc (ended space c) (ended newline d) s) in
    field_same newline (omega arith) b d r s first.1

-- a line of a step
step_same : (x : Step) (k m : ℕ) (r s : List ℕ) → kept_line x k ++ r ≡ kept_line x m ++ s → (k ≡ m) × (r ≡ s)
unfolding line
step_same x k m r s e =
    let behind = append_cancel_left (ended space x.from) _ _
    (sym (append_assoc (ended space x.from) (ended space x.to ++ ended newline k) r)
    ∙ e
    ∙ append_assoc (ended space x.from) (ended space x.to ++ ended newline m) s) in
    let last = append_cancel_left (ended space x.to) _ _
    (sym (append_assoc (ended space x.to) (ended newline k) r) ∙ behind
    ∙ append_assoc (ended space x.to) (ended newline m) s) in
    field_same newline (omega arith) k m r s last

-- the lines of the steps
lines_same : (steps : List Step) (l m : List ℕ) → length l ≡ length steps → length m ≡ length steps
    → kept_lines steps l ≡ kept_lines steps m → l ≡ m
unfolding kept_lines
lines_same [] [] [] p q e = refl
lines_same [] (k ∷ l) m p q e = absurd (omega arith)
lines_same [] [] (k ∷ m) p q e = absurd (omega arith)
lines_same (x ∷ steps) [] m p q e = absurd (omega arith)
lines_same (x ∷ steps) (k ∷ l) [] p q e = absurd (omega arith)
lines_same (x ∷ steps) (k ∷ l) (j ∷ m) p q e =
    let first = step_same x k j _ _ e in
    let rest = lines_same steps l m (omega arith) (omega arith) first.1 in
    λ i. first.0 i ∷ rest i

-- the whole text
found_same : (table : List ℕ) (p q c d : ℕ) (l m : List ℕ) → length l ≡ length (steps_of table)
    → length m ≡ length (steps_of table)
    → found_text table p c l ≡ found_text table q d m → (p ≡ q) × (l ≡ m)
found_same table p q c d l m h k e =
    let numbers = two_same c p d q _ _ (append_cancel_left (ascii "answer choices price\nfound ") _ _ e) in
    (numbers.0, lines_same (steps_of table) l m h k (append_cancel_left (ascii "from to kept\n") _ _ numbers.1))

-- a text has one table
one_table : (text t u : List ℕ) → SheetOf text t → SheetOf text u → t ≡ u
one_table text t u (v, range, is_text, same) (w, range', is_text', same') =
    same ∙ ap pack (render_injective v w range range' (sym is_text ∙ is_text')) ∙ sym same'

module _ (text table : List ℕ) (fits : FitTable text table) (p c : ℕ) (list : List ℕ)
    (size : length list ≡ length (table_of table).steps) where
  by_table : (printed : List ℕ) → printed ≡ found_text table p c list → TableSays cap table printed
      → FoundList (table_of table) p list
  by_table printed e (inl of_none) = differ _ _ 21 110 102 refl refl (omega arith) (sym of_none.text ∙ e)
  by_table printed e (inr (inl of_spent)) = differ _ _ 21 115 102 refl refl (omega arith) (sym of_spent.text ∙ e)
  by_table printed e (inr (inr of_found)) =
      let same = found_same table of_found.price p _ c of_found.list list of_found.found.narrow.repair.form.size size
      (sym of_found.text ∙ e) in
      subst₂ (FoundList (table_of table)) same.0 same.1 of_found.found

  by_says : fit_text text ≡ found_text table p c list → FitSays text (fit_text text) → FoundList (table_of table) p list
  by_says e (inl (r, why, is)) = differ _ _ 7 110 99 refl refl (omega arith) (sym is ∙ e)
  by_says e (inr (u, fits', says)) =
      by_table (fit_text text) e
      (subst (λ (t : List ℕ). TableSays cap t (fit_text text)) (one_table text u table fits'.sheet fits.sheet) says)

pub list_says : (text : List ℕ) → ListSays text (fit_text text)
list_says text table fits p c list size e = by_says text table fits p c list size e (fit_says text)
