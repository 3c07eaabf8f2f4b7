-- `repair_batch` meets its contract: each way out has decided the tests up to its own, and the last one has repaired
-- each table.
use Prim.Native.Nat.{ℕ, ◌≤◌, ◌<◌}
use native.Mathlib.Omega.{arith}
use mathlib.Core.Path.{◌≡◌, refl, sym, ap, subst, ◌∙◌}
use mathlib.Core.List.{List}
use lib.ListN.{length, drop}
use Rattle.std.proofs.Common.{rules}
use Rattle.std.specs.Prelude.{Some, None, Ok, Err, Result, ◌++◌}
use Rattle.table.specs.declared.refusal.Refusal.{Refusal}
use Rattle.table.specs.declared.refusal.Refusal.TheVariants.{ShortBuffer, NotTables}
use Rattle.search.specs.declared.answer.Answer.{Answer}
use Rattle.repair.specs.Effect.{cleared}
use Rattle.batch.specs.Batch.{most_tables, most_variables}
use Rattle.batch.specs.Effect.{
  tables_in,
  answers_of,
  lists_after,
  left_after,
  end_of,
  on_tables,
  batch_verdict,
}
use Rattle.batch.specs.Needs.{needs_of, tables_or_none}
use Rattle.batch.specs.Right.{BatchTaken, BatchRefused, BatchIsRight}
use Rattle.batch.proofs.Measured.{needs_few}
use Rattle.batch.proofs.Right.{Given, given_by, right_as}
use Rattle.batch.proofs.Tested.{
  not_cut,
  none_cut,
  is_cut,
  tables_are,
  steps_are,
  variables_are,
  lists_short,
  bytes_short,
  words_short,
  answers_short,
  long,
}
use Rattle.batch.proofs.repair_batch.Goals.{
  then-lists-needs-via-then-lists-needs,
  then-lists-needs-via-else-lists-needs+then-bytes-needs,
  then-lists-needs-via-else-lists-needs+else-bytes-needs+then-words-needs,
  then-lists-needs-via-else-lists-needs+else-bytes-needs+else-words-needs+then-answers-needs,
}
use Rattle.batch.proofs.repair_batch.Goals as goal

pub returns-in_default : goal.returns-in_default
returns-in_default c =
    let a = c.args in
    let none : c.measure.result ≡ None = search rules in
    let v = not_cut a.tables.now a.cap a.lists.now a.bytes.now a.words.now a.answers.now
    (sym none ∙ c.measure.ensures) in
    let g = given_by a.tables.now a.cap a.lists.now a.bytes.now a.words.now a.answers.now (Err NotTables) v in
    record {
      value = g.value;
      lists_after = g.lists_after;
      bytes_after = g.bytes_after;
      words_after = g.words_after;
      answers_after = g.answers_after;
      accepted = g.accepted;
      refused = g.refused;
      untouched = g.untouched;
      right = g.right;
    }

pub returns-then-needs-eq0 : goal.returns-then-needs-eq0
returns-then-needs-eq0 c =
    let a = c.args in
    let b = c.in-Some.needs in
    let got : c.measure.result ≡ Some b = search rules in
    let v = none_cut a.tables.now a.cap a.lists.now a.bytes.now a.words.now a.answers.now b
    (sym got ∙ c.measure.ensures) (search rules) in
    let g = given_by a.tables.now a.cap a.lists.now a.bytes.now a.words.now a.answers.now (Err NotTables) v in
    record {
      value = g.value;
      lists_after = g.lists_after;
      bytes_after = g.bytes_after;
      words_after = g.words_after;
      answers_after = g.answers_after;
      accepted = g.accepted;
      refused = g.refused;
      untouched = g.untouched;
      right = g.right;
    }

pub returns-then-lists-needs : goal.returns-then-lists-needs
returns-then-lists-needs c =
    let a = c.args in
    let b = c.in-Some.needs in
    let got : c.measure.result ≡ Some b = search rules in
    let some : ¬ (b.tables ≡ 0) = search rules in
    let e = sym got ∙ c.measure.ensures in
    let Short : Type 0 =
    batch_verdict a.tables.now a.cap a.lists.now a.bytes.now a.words.now a.answers.now ≡ Err ShortBuffer in
    let v : Short = elim c.then-lists-needs.branch as (λ _. Short) [
      | then-lists-needs-via-then-lists-needs w ↦
          lists_short a.tables.now a.cap a.lists.now a.bytes.now a.words.now a.answers.now b e some (search rules)
      | then-lists-needs-via-else-lists-needs+then-bytes-needs w ↦
          bytes_short a.tables.now a.cap a.lists.now a.bytes.now a.words.now a.answers.now b e some (search rules)
      | then-lists-needs-via-else-lists-needs+else-bytes-needs+then-words-needs w ↦
          words_short a.tables.now a.cap a.lists.now a.bytes.now a.words.now a.answers.now b e some (search rules)
      | then-lists-needs-via-else-lists-needs+else-bytes-needs+else-words-needs+then-answers-needs w ↦
          answers_short a.tables.now a.cap a.lists.now a.bytes.now a.words.now a.answers.now b e some (search rules)
    ] in
    let g = given_by a.tables.now a.cap a.lists.now a.bytes.now a.words.now a.answers.now (Err ShortBuffer) v in
    record {
      value = g.value;
      lists_after = g.lists_after;
      bytes_after = g.bytes_after;
      words_after = g.words_after;
      answers_after = g.answers_after;
      accepted = g.accepted;
      refused = g.refused;
      untouched = g.untouched;
      right = g.right;
    }

pub overflow_cast-result : goal.overflow_cast-result
overflow_cast-result c =
    let got : c.measure.result ≡ Some c.in-Some.needs = search rules in
    let few = needs_few most_tables c.args.tables.now c.in-Some.needs (sym got ∙ c.measure.ensures) in
    omega (arith, few.0)

pub returns : goal.returns
returns c =
    let a = c.args in
    let b = c.in-Some.needs in
    let got : c.measure.result ≡ Some b = search rules in
    let some : ¬ (b.tables ≡ 0) = search rules in
    let e = sym got ∙ c.measure.ensures in
    let ts = tables_or_none (tables_in most_tables a.tables.now) in
    let l : b.steps ≤ length a.lists.now = search rules in
    let w : b.variables ≤ length a.bytes.now = search rules in
    let v : b.variables ≤ length a.words.now = search rules in
    let n : b.tables ≤ length a.answers.now = search rules in
    let ok = long a.tables.now a.cap a.lists.now a.bytes.now a.words.now a.answers.now b e some l w v n in
    let g = given_by a.tables.now a.cap a.lists.now a.bytes.now a.words.now a.answers.now (Ok ts) ok in
    let each = c.repair_each-left.ensures in
    let count : b.tables ≡ length ts =
    tables_are a.tables.now a.cap a.lists.now a.bytes.now a.words.now a.answers.now b e some in
    record {
      value = (λ i. Ok (record { tables = count i; left = each.value i })) ∙ g.value;
      lists_after = each.lists_after ∙ g.lists_after;
      bytes_after = each.bytes_after ∙ g.bytes_after;
      words_after = each.words_after ∙ g.words_after;
      answers_after = each.answers_after ∙ g.answers_after;
      accepted = g.accepted;
      refused = tt;
      untouched = tt;
      right = right_as a.tables.now a.cap a.answers.now a.lists.now a.bytes.now a.words.now b.tables (length ts)
          c.repair_each-left.result (left_after ts a.cap) c.repair_each-left.new.answers
          (answers_of ts a.cap ++ drop (length ts) a.answers.now) c.repair_each-left.new.lists
          (lists_after ts a.cap a.lists.now) c.repair_each-left.new.bytes (cleared (most_variables ts) a.bytes.now)
          c.repair_each-left.new.words (cleared (most_variables ts) a.words.now) count each.value each.answers_after
          each.lists_after each.bytes_after each.words_after g.right;
    }
