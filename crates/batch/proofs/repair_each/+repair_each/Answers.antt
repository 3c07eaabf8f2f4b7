-- `repair_each` meets its contract: no table more, or the first one repaired and those behind it in their turn.
use Prim.Native.Nat.{ℕ, zero, suc, ◌+◌, ◌-◌, ◌≤◌}
use native.Mathlib.Omega.{arith}
use mathlib.Core.Path.{◌≡◌, refl, sym, ap, subst, ◌∙◌}
use mathlib.Core.List.{List, []}
use lib.ListN.{length, take, drop, length-drop}
use lib.Seq.{length-take-le}
use Rattle.std.proofs.Common.{rules}
use Rattle.std.specs.Prelude.{Some, None, Ok, slice_set, ◌++◌}
use Rattle.table.specs.Table.{table_of}
use Rattle.table.specs.First.{first_bytes, FirstTable}
use Rattle.table.specs.Accept.{table_verdict}
use Rattle.circuit.specs.Variables.{variable_formula}
use Rattle.search.specs.declared.answer.Answer.{Answer}
use Rattle.search.specs.Answer.{answer_of}
use Rattle.search.specs.TableSearch.{search_under}
use Rattle.repair.specs.Right.{LongEnough}
use Rattle.repair.specs.Effect.{written_after, cleared}
use Rattle.batch.specs.Batch.{steps_in, used, most_variables}
use Rattle.batch.specs.Effect.{tables_in, all_steps, answers_of, lists_after, left_after}
use Rattle.batch.specs.Needs.{tables_or_none}
use Rattle.batch.specs.Right.{choices_in}
use Rattle.batch.proofs.Allowance.{used_most}
use Rattle.batch.proofs.Turn.{Turned, turned_by, long_by}
use Rattle.batch.proofs.EachTurn.{
  none_more,
  none_there,
  not_refused,
  behind_some,
  all_is,
  most_is,
  count_is,
  first_fits,
  rest_fits,
  left_turn,
  lists_turn,
  work_turn,
  answers_turn,
  choices_used,
}
use Rattle.batch.proofs.repair_each.+repair_each.Goals.{
  then-is_empty-via-then-is_empty,
  then-is_empty-via-else-is_empty+then-most-eq0,
}
use Rattle.batch.proofs.repair_each.+repair_each.Goals as goal

-- without a table more all stays
abbrev Nothing : List (List ℕ) → ℕ → List ℕ → List ℕ → List ℕ → List Answer → Type 0
Nothing ts cap lists bytes words answers =
    (cap ≡ left_after ts cap)
    × (lists ≡ lists_after ts cap lists)
    × (bytes ≡ cleared (most_variables ts) bytes)
    × (words ≡ cleared (most_variables ts) words)
    × (answers ≡ answers_of ts cap ++ drop (length ts) answers)

nothing : (ts : List (List ℕ)) (cap : ℕ) (lists bytes words : List ℕ) (answers : List Answer) → ts ≡ []
    → Nothing ts cap lists bytes words answers
unfolding left_after lists_after most_variables answers_of
nothing ts cap lists bytes words answers e =
    subst (λ (us : List (List ℕ)). Nothing us cap lists bytes words answers) (sym e) (refl, refl, refl, refl, refl)

pub returns-then-is_empty : goal.returns-then-is_empty
returns-then-is_empty t c =
    let a = c.args in
    let ts = tables_or_none (tables_in a.most a.rest.now) in
    let none : ts ≡ [] = elim c.then-is_empty.branch as (λ _. ts ≡ []) [
      | then-is_empty-via-then-is_empty w ↦ none_there a.most a.rest.now (search rules)
      | then-is_empty-via-else-is_empty+then-most-eq0 w ↦ none_more a.most a.rest.now c.requires.tables (search rules)
    ] in
    let all = nothing ts a.cap a.lists.now a.bytes.now a.words.now a.answers.now none in
    record { value = all.0; lists_after = all.1; bytes_after = all.2; words_after = all.3; answers_after = all.4 }

-- a first table that is refused is in no batch
pub returns-in_default : goal.returns-in_default
returns-in_default t c =
    let a = c.args in
    let more : ¬ (a.most ≡ 0) = search rules in
    let some : ¬ (length a.rest.now ≡ 0) = search rules in
    let none : c.first_table.result ≡ None = search rules in
    let refused = subst (FirstTable a.rest.now) none c.first_table.ensures in
    absurd (not_refused a.most a.rest.now more some c.requires.tables refused)

pub split_at_mut-list-requires : goal.split_at_mut-list-requires
split_at_mut-list-requires t c =
    let a = c.args in
    let table = c.in-Some.table in
    let more : ¬ (a.most ≡ 0) = search rules in
    let some : ¬ (length a.rest.now ≡ 0) = search rules in
    let found : c.first_table.result ≡ Some table = search rules in
    let first = subst (FirstTable a.rest.now) found c.first_table.ensures in
    let all = all_is a.most a.rest.now table.bytes.now more some first table.passes c.requires.tables in
    omega (arith, all, c.requires.lists_room, c.step_count.ensures)

pub split_at_mut-own-requires : goal.split_at_mut-own-requires
split_at_mut-own-requires t c =
    let a = c.args in
    let table = c.in-Some.table in
    let more : ¬ (a.most ≡ 0) = search rules in
    let some : ¬ (length a.rest.now ≡ 0) = search rules in
    let found : c.first_table.result ≡ Some table = search rules in
    let first = subst (FirstTable a.rest.now) found c.first_table.ensures in
    let count = count_is a.most a.rest.now table.bytes.now more some first table.passes c.requires.tables in
    omega (arith, count, c.requires.answers_room)

-- what the repairer gives of the first table, with its part of the lists and the work buffers
module _ (one : List ℕ) (cap : ℕ) (lists list bytes words : List ℕ) (k : ℕ) (ok : table_verdict one ≡ Ok tt)
    (count : k ≡ steps_in one) (room : k ≤ length lists) (part : list ≡ take k lists)
    (b : variable_formula (table_of one) ≤ length bytes) (w : variable_formula (table_of one) ≤ length words) where
  its_turn : Turned one cap list bytes words
  its_turn =
      let size : length list ≡ k = ap length part ∙ length-take-le k lists room in
      turned_by one cap list bytes words (long_by one cap list bytes words ok (omega (arith, size, count)) b w)

pub overflow_sub-left : goal.overflow_sub-left
overflow_sub-left t c =
    let a = c.args in
    let table = c.in-Some.table in
    let one : List ℕ = table.bytes.now in
    let more : ¬ (a.most ≡ 0) = search rules in
    let some : ¬ (length a.rest.now ≡ 0) = search rules in
    let found : c.first_table.result ≡ Some table = search rules in
    let first = subst (FirstTable a.rest.now) found c.first_table.ensures in
    let all = all_is a.most a.rest.now one more some first table.passes c.requires.tables in
    let room : c.step_count.result ≤ length a.lists.now =
    omega (arith, all, c.requires.lists_room, c.step_count.ensures) in
    let turn = its_turn one a.cap a.lists.now c.split_at_mut-list.result.0.now a.bytes.now a.words.now
    c.step_count.result
    table.passes c.step_count.ensures room c.split_at_mut-list.ensures.front
    (first_fits a.most a.rest.now one more some first table.passes c.requires.tables
    (length a.bytes.now) c.requires.bytes_room)
    (first_fits a.most a.rest.now one more some first table.passes c.requires.tables
    (length a.words.now) c.requires.words_room) in
    let made : c.choices_of.result ≡ used one a.cap =
    c.choices_of.ensures ∙ ap choices_in (c.repair_accepted-answer.ensures.value ∙ turn.answer)
    ∙ choices_used one a.cap in
    omega (arith, made, used_most one a.cap table.passes)

pub repair_each-requires : goal.repair_each-requires
repair_each-requires t c =
    let a = c.args in
    let table = c.in-Some.table in
    let one : List ℕ = table.bytes.now in
    let more : ¬ (a.most ≡ 0) = search rules in
    let some : ¬ (length a.rest.now ≡ 0) = search rules in
    let found : c.first_table.result ≡ Some table = search rules in
    let first = subst (FirstTable a.rest.now) found c.first_table.ensures in
    let there = behind_some a.most a.rest.now one more some first table.passes c.requires.tables in
    let all = all_is a.most a.rest.now one more some first table.passes c.requires.tables in
    let count = count_is a.most a.rest.now one more some first table.passes c.requires.tables in
    let b = rest_fits a.most a.rest.now one more some first table.passes c.requires.tables
    (length a.bytes.now) c.requires.bytes_room in
    let w = rest_fits a.most a.rest.now one more some first table.passes c.requires.tables
    (length a.words.now) c.requires.words_room in
    let lists_behind = ap length c.split_at_mut-list.ensures.back ∙ length-drop c.step_count.result a.lists.now in
    let answers_behind = ap length c.split_at_mut-own.ensures.back ∙ length-drop 1 a.answers.now in (
      omega (arith, c.decreases, more),
      (
        there,
        (
          omega (arith, all, c.requires.lists_room, c.step_count.ensures, lists_behind),
          (
            omega (arith, b, c.repair_accepted-answer.auto.bytes),
            (
              omega (arith, w, c.repair_accepted-answer.auto.words),
              omega (arith, count, c.requires.answers_room, answers_behind),
            ),
          ),
        ),
      ),
    )

pub returns : goal.returns
returns t c =
    let a = c.args in
    let table = c.in-Some.table in
    let one : List ℕ = table.bytes.now in
    let more : ¬ (a.most ≡ 0) = search rules in
    let some : ¬ (length a.rest.now ≡ 0) = search rules in
    let found : c.first_table.result ≡ Some table = search rules in
    let first = subst (FirstTable a.rest.now) found c.first_table.ensures in
    let tabled = c.requires.tables in
    let all = all_is a.most a.rest.now one more some first table.passes tabled in
    let count = count_is a.most a.rest.now one more some first table.passes tabled in
    let room : c.step_count.result ≤ length a.lists.now =
    omega (arith, all, c.requires.lists_room, c.step_count.ensures) in
    let turn = its_turn one a.cap a.lists.now c.split_at_mut-list.result.0.now a.bytes.now a.words.now
    c.step_count.result
    table.passes c.step_count.ensures room c.split_at_mut-list.ensures.front
    (first_fits a.most a.rest.now one more some first table.passes tabled (length a.bytes.now) c.requires.bytes_room)
    (first_fits a.most a.rest.now one more some first table.passes tabled (length a.words.now) c.requires.words_room) in
    let answer = c.repair_accepted-answer.ensures.value ∙ turn.answer in
    let made : c.choices_of.result ≡ used one a.cap =
    c.choices_of.ensures ∙ ap choices_in answer ∙ choices_used one a.cap in
    let left = a.cap - c.choices_of.result in
    let left_is : left ≡ a.cap - used one a.cap = ap (λ (k : ℕ). a.cap - k) made in
    let T = table_of one in
    let front : c.split_at_mut-list.result.0.now ≡ take (steps_in one) a.lists.now =
    c.split_at_mut-list.ensures.front ∙ ap (λ (k : ℕ). take k a.lists.now) c.step_count.ensures in
    let back : c.split_at_mut-list.result.1.now ≡ drop (steps_in one) a.lists.now =
    c.split_at_mut-list.ensures.back ∙ ap (λ (k : ℕ). drop k a.lists.now) c.step_count.ensures in
    let e = c.repair_each.ensures in
    let us = tables_or_none
    (tables_in (a.most - 1) (take (length a.rest.now - length one) (drop (length one) a.rest.now))) in
    record {
      value = e.value ∙ left_turn a.most a.rest.now one more some first table.passes tabled a.cap left left_is;
      lists_after =
          (λ i. (c.repair_accepted-answer.ensures.list_after ∙ turn.list_after
          ∙ ap (written_after T (search_under T a.cap)) front) i
          ++ (e.lists_after ∙ ap (lists_after us left) back) i)
          ∙ lists_turn a.most a.rest.now one more some first table.passes tabled a.cap left a.lists.now left_is;
      bytes_after =
          e.bytes_after
          ∙ ap (cleared (most_variables us)) (c.repair_accepted-answer.ensures.bytes_after ∙ turn.bytes_after)
          ∙ work_turn a.most a.rest.now one more some first table.passes tabled a.bytes.now c.requires.bytes_room;
      words_after =
          e.words_after
          ∙ ap (cleared (most_variables us)) (c.repair_accepted-answer.ensures.words_after ∙ turn.words_after)
          ∙ work_turn a.most a.rest.now one more some first table.passes tabled a.words.now c.requires.words_room;
      answers_after =
          (λ i. slice_set (c.split_at_mut-own.ensures.front i) 0 (answer i)
          ++ (e.answers_after ∙ ap (λ (xs : List Answer). answers_of us left ++ drop (length us) xs)
          c.split_at_mut-own.ensures.back) i)
          ∙ answers_turn a.most a.rest.now one more some first table.passes tabled a.cap left a.answers.now left_is
          (omega (arith, count, c.requires.answers_room));
    }
