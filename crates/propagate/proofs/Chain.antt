-- Calls one after the other, as the model has them: what one call does to the memory as the call before it left it.
use Prim.Native.Nat.{ℕ}
use mathlib.Core.Path.{◌≡◌, ap, ◌∙◌}
use mathlib.Core.Bool.{false}
use mathlib.Core.List.{List}
use Rattle.rows.specs.declared.row.Row.{Row}
use Rattle.rows.specs.declared.row.Report.{Report}
use Rattle.propagate.specs.Back.{quiet_report}
use Rattle.rows.specs.Words.{row_added, report_of, both_reports}
use Rattle.propagate.specs.Memory.{Memory, Stepped, memory, stepped, add_row, ◌and_then◌}

-- a row added to the rows
pub added : (rows : List ℕ) (at : ℕ) {x y : Row} {rows' : List ℕ} {r : Report}
    → x ≡ y → r ≡ report_of rows at x → rows' ≡ row_added rows at x → (w : List ℕ)
    → stepped rows' w r ≡ add_row at y (memory rows w)
added rows at e report here w = (λ i. stepped (here i) w (report i)) ∙ ap (λ (z : Row). add_row at z (memory rows w)) e

-- a call after others, with both reports
pub after : {rows words rows' words' : List ℕ} {p q r : Report} {S : Stepped} (f : Memory → Stepped)
    → stepped rows words p ≡ S → stepped rows' words' q ≡ f (memory rows words) → r ≡ both_reports p q
    → stepped rows' words' r ≡ (S and_then f)
after {rows} {words} {rows'} {words'} {p} f before here e =
    ap (λ (z : Report). stepped rows' words' z) e
    ∙ ap (λ (T : Stepped). record { memory = T.memory; report = both_reports p T.report }) here
    ∙ ap (λ (T : Stepped). T and_then f) before

-- a row added after others
pub after_add : {rows words rows' : List ℕ} {p q r : Report} {S : Stepped} {x y : Row} (at : ℕ)
    → stepped rows words p ≡ S → x ≡ y → q ≡ report_of rows at x → rows' ≡ row_added rows at x → r ≡ both_reports p q
    → stepped rows' words r ≡ (S and_then add_row at y)
after_add {rows} {words} {y = y} at before e report here both =
    after (add_row at y) before (added rows at e report here words) both

-- a report of nothing: the default one
pub quiet_is : (r : Report) → (r.changed ≡ false) × (r.fails ≡ false) → r ≡ quiet_report
quiet_is r e = λ i. record { changed = e.0 i; fails = e.1 i }
