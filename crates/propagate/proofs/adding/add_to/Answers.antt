-- `add_to` meets its contract: where the row has changed its readers at the states where it grew are marked, and else
-- it has stayed.
use Prim.Native.Nat.{ℕ}
use mathlib.Core.Path.{◌≡◌, sym, ap, subst, ◌∙◌}
use mathlib.Core.List.{List}
use Rattle.std.proofs.Common.{rules}
use Rattle.rows.specs.declared.row.Row.{Row}
use Rattle.rows.specs.declared.row.Report.{Report}
use Rattle.rows.specs.Row.{union}
use Rattle.rows.specs.Words.{row_at, SmallRow}
use Rattle.readers.specs.Readers.{grown}
use Rattle.propagate.specs.Marked.{ReadersMarked}
use Rattle.propagate.proofs.AddedRow.{added_here, added_same}
use Rattle.propagate.proofs.MarkedLaws.{row_same, row_grown}
use Rattle.propagate.proofs.adding.add_to.Goals as goal

pub returns-then-report-clause-marked : goal.returns-then-report-clause-marked
returns-then-report-clause-marked c =
    let a = c.args in
    let ws = a.words.now in
    let old = row_at ws a.at in
    let added = c.add-report in
    let looks = c.mark.new.looks in
    let small : SmallRow a.x = search rules in
    let was : SmallRow c.row_at-old.result = search rules in
    let new : row_at added.new.words a.at ≡ union old a.x =
    ap (λ (xs : List ℕ). row_at xs a.at) added.ensures.words_after ∙ added_here ws a.at a.x c.requires.in_words in
    let set : c.grown_at.result ≡ grown old a.x =
    c.grown_at.ensures ∙ ap (λ (r : Row). grown r a.x) c.row_at-old.ensures in
    row_grown a.readers.now looks a.of old a.x (row_at added.new.words a.at) (subst SmallRow c.row_at-old.ensures was)
    small new
    (subst (ReadersMarked a.readers.now looks a.of) set c.mark.ensures.marked)

pub returns-else-report-clause-marked : goal.returns-else-report-clause-marked
returns-else-report-clause-marked c =
    let a = c.args in
    let ws = a.words.now in
    let added = c.add-report in
    row_same a.readers.now a.looks.now a.of (row_at ws a.at) (row_at added.new.words a.at)
    (ap (λ (xs : List ℕ). row_at xs a.at)
    (added.ensures.words_after
    ∙ added_same ws a.at a.x c.requires.in_words
    (ap (λ (r : Report). r.changed) (sym added.ensures.value) ∙ c.if-report.false)))
