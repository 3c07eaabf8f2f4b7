-- What is printed is at most 1,078 bytes: 128 lines of steps of 8 bytes each, and 54 bytes before them.
use Prim.Native.Nat.{ℕ, suc, ◌+◌, ◌*◌, ◌≤◌, ◌<◌}
use mathlib.Core.Path.{◌≡◌, refl}
use mathlib.Core.Bool.{Bool, true, false}
use mathlib.Core.List.{List, [], ◌∷◌, ◌++◌}
use native.Mathlib.Nat.{mul-suc, le_of_eq}
use native.Mathlib.Omega.{arith}
use lib.Dec.{leb}
use lib.ListN.{length, length-append}
use Rattle.table.specs.declared.record.Step.{Step}
use Rattle.table.specs.declared.refusal.Refusal.{Refusal}
use Rattle.table.specs.declared.refusal.Refusal.TheVariants as refusal
use Rattle.table.specs.Verdict.{Verdict, refusal_number}
use Rattle.std.specs.Prelude.{Ok, Err}
use Rattle.search.specs.Answer.{answer_of}
use Rattle.sheet.specs.Parse.{parse}
use Rattle.table.specs.Table.{table_of, steps_of, step_at}
use Rattle.table.specs.Accept.{all, step_fits, table_verdict}
use Rattle.table.proofs.Facts.{accepted, step_within, header_accepted, records_accepted}
use Rattle.table.proofs.Bools.{and_parts}
use Rattle.search.specs.Search.{Outcome, found, none, spent}
use Rattle.search.specs.TableSearch.{search_under}
use Rattle.search.specs.Right.{choices}
use Rattle.sheet.specs.Form.{ascii, decimal, ended, line}
use Rattle.reader.specs.Read.{packed, read_verdict}
use Rattle.render.proofs.Number.{low_length}
use Rattle.render.proofs.Bounds.{more_digits, ended-length}
use Rattle.repair.specs.Effect.{repair_verdict, answer_at, repair_list}
use Rattle.report.specs.Texts.{refused, kept_line, kept_lines, cap}
use Rattle.report.specs.Report.{answer_text, zeros, table_text, verdict_text, limited, text_under, fit_text}
use Rattle.report.proofs.Accepted.{read_accepted, read_prices}
use Rattle.report.proofs.Bits.{Bits, bits_zeros, list_bits}
use Rattle.report.proofs.AtMost.{price, choices_few, price_few}

-- ---- numbers and lines

two_digits : (v : ℕ) → v < 100 → length (decimal v) ≤ 2
two_digits = more_digits 10 1 (λ w h. le_of_eq (low_length w h))

five_digits : (v : ℕ) → v < 100000 → length (decimal v) ≤ 5
five_digits = more_digits 10000 4 (more_digits 1000 3 (more_digits 100 2 two_digits))

seven_digits : (v : ℕ) → v ≤ 1000000 → length (decimal v) ≤ 7
seven_digits v h = more_digits 1000000 6 (more_digits 100000 5 five_digits) v (omega arith)

one_value : (v : ℕ) → length (line (v ∷ [])) ≡ length (decimal v) + 1
unfolding line
one_value v = ended-length 10 v

two_values : (a b : ℕ) → length (line (a ∷ b ∷ [])) ≡ length (decimal a) + length (decimal b) + 2
unfolding line
two_values a b = omega (arith, length-append (ended 32 a) (ended 10 b), ended-length 32 a, ended-length 10 b)

three_values : (a b c : ℕ)
    → length (line (a ∷ b ∷ c ∷ [])) ≡ length (decimal a) + length (decimal b) + length (decimal c) + 3
unfolding line
three_values a b c =
    omega (
      arith,
      length-append (ended 32 a) (ended 32 b ++ ended 10 c),
      length-append (ended 32 b) (ended 10 c),
      ended-length 32 a,
      ended-length 32 b,
      ended-length 10 c,
    )

-- ---- the lines of the steps

kept_length : (x : Step) (n kept : ℕ) → n ≤ 32 → step_fits n x ≡ true → kept ≤ 1 → length (kept_line x kept) ≤ 8
kept_length x n kept h fits bit =
    let w = step_within n x fits in
    omega (
      arith,
      three_values x.from x.to kept,
      two_digits x.from (omega (arith, w.0)),
      two_digits x.to (omega (arith, w.1)),
      low_length kept (omega arith),
    )

lines_length : (n : ℕ) → n ≤ 32 → (steps : List Step) (list : List ℕ) → all (step_fits n) steps ≡ true → Bits list
    → length (kept_lines steps list) ≤ 8 * length steps
unfolding kept_lines all
lines_length n h [] list fit bits = omega arith
lines_length n h (x ∷ steps) [] fit bits = omega arith
lines_length n h (x ∷ steps) (kept ∷ list) fit bits =
    let f = and_parts (step_fits n x) (all (step_fits n) steps) fit in
    omega (
      arith,
      length-append (kept_line x kept) (kept_lines steps list),
      kept_length x n kept h f.0 (bits 0),
      lines_length n h steps list f.1 (λ i. bits (suc i)),
      mul-suc 8 (length steps),
    )

-- ---- Repair's answer

refusal_few : (r : Refusal) → refusal_number r ≤ 17
refusal_few refusal.SheetForm = omega arith
refusal_few refusal.Length = omega arith
refusal_few refusal.Counts = omega arith
refusal_few refusal.StateRecord = omega arith
refusal_few refusal.NoInitial = omega arith
refusal_few refusal.StepEnd = omega arith
refusal_few refusal.RepeatedStep = omega arith
refusal_few refusal.NodeRecord = omega arith
refusal_few refusal.ListForm = omega arith
refusal_few refusal.ShortBuffer = omega arith
refusal_few refusal.NotTotal = omega arith
refusal_few refusal.NoInitialKept = omega arith
refusal_few refusal.RootFails = omega arith
refusal_few refusal.UnreachedStep = omega arith
refusal_few refusal.NotTables = omega arith

pub refused-length : (r : Refusal) → length (refused r) ≤ 1078
refused-length r =
    omega (arith, one_value (refusal_number r), two_digits (refusal_number r) (omega (arith, refusal_few r)))

values_length : (c p : ℕ) → c ≤ cap → p ≤ 32640 → length (line (c ∷ p ∷ [])) ≤ 14
values_length c p few cheap = omega (arith, two_values c p, seven_digits c few, five_digits p (omega arith))

outcome_length : (table : List ℕ) (o : Outcome) (list : List ℕ) → choices o ≤ cap → price o ≤ 32640
    → length (kept_lines (steps_of table) list) ≤ 1024 → length (answer_text table (answer_of o) list) ≤ 1078
outcome_length table (found m p c k) list few cheap short =
    omega (
      arith,
      length-append (line (c ∷ p ∷ [])) (ascii "from to kept\n" ++ kept_lines (steps_of table) list),
      values_length c p few cheap,
    )
outcome_length table (none c k) list few cheap short = omega (arith, values_length c 0 few cheap)
outcome_length table (spent c k) list few cheap short = omega (arith, values_length c 0 few cheap)

answer-length : (table : List ℕ) (v : Verdict) (o : Outcome) (list : List ℕ) → choices o ≤ cap → price o ≤ 32640
    → length (kept_lines (steps_of table) list) ≤ 1024 → length (answer_text table (answer_at v o) list) ≤ 1078
answer-length table (Ok tt) o list few cheap short = outcome_length table o list few cheap short
answer-length table (Err r) o list few cheap short = refused-length r

table_length : (table : List ℕ) → table_verdict table ≡ Ok tt → ((j : ℕ) → (step_at (table_of table) j).price ≤ 255)
    → length (table_text cap table) ≤ 1078
unfolding table_text
table_length table ok bytes =
    let T = table_of table in
    let p = (accepted table ok).table in
    let v = repair_verdict table (zeros 128) (zeros 10000) (zeros 10000) in
    let o = search_under T cap in
    let list = repair_list table cap (zeros 128) (zeros 10000) (zeros 10000) in
    let fit = (records_accepted T (header_accepted table ok).2).2 in
    let few = p.few_steps in
    let lines = lines_length (length T.states) p.few_states T.steps list fit
    (list_bits v T o (zeros 128) (bits_zeros 128)) in
    answer-length table v o list (choices_few T p cap) (price_few T p cap bytes) (omega arith)

-- ---- the whole

limited-length : (b : Bool) (text : List ℕ) → length (limited cap b text) ≤ 1078
limited-length true text = by (read_verdict text 580) refl
  where
    by : (v : Verdict) → read_verdict text 580 ≡ v → length (verdict_text cap v (packed (parse text))) ≤ 1078
    by (Ok tt) e = table_length (packed (parse text)) (read_accepted text e) (read_prices text e)
    by (Err r) e = refused-length r
limited-length false text = refused-length refusal.SheetForm

pub text_length : (text : List ℕ) → length (fit_text text) ≤ 1078
unfolding text_under
text_length text = limited-length (leb (length text) 4096) text
