-- `measure` meets its contract: what each way out has, from the first table and those behind it.
use Prim.Native.Nat.{ℕ, ◌+◌, ◌-◌, ◌≤◌, max}
use native.Mathlib.Omega.{arith}
use mathlib.Core.Path.{◌≡◌, sym, ap, subst, ◌∙◌}
use mathlib.Core.List.{List}
use lib.ListN.{length, take, drop}
use Rattle.std.proofs.Common.{rules}
use Rattle.std.specs.Prelude.{Some, None, Ok}
use Rattle.table.specs.Table.{table_of}
use Rattle.table.specs.First.{first_bytes, bytes_behind, FirstTable}
use Rattle.table.specs.Accept.{table_verdict}
use Rattle.circuit.specs.Variables.{variable_formula}
use Rattle.batch.specs.declared.measure.Needs.{Needs}
use Rattle.batch.specs.Batch.{steps_in}
use Rattle.batch.specs.Effect.{in_front, tables_in}
use Rattle.batch.specs.Needs.{needs_of}
use Rattle.batch.proofs.Needs.{steps_few}
use Rattle.batch.proofs.Measured.{
  tables_step,
  no_bytes,
  no_tables,
  needs_nothing,
  needs_refused,
  needs_none,
  needs_more,
  needs_few,
  rest_slice,
}
use Rattle.batch.proofs.measure.+measure.Goals as goal

pub returns-then-is_empty : goal.returns-then-is_empty
returns-then-is_empty t c =
    let empty : length c.args.rest.now ≡ 0 = search rules in
    needs_nothing (tables_in c.args.most c.args.rest.now) (no_bytes c.args.most c.args.rest.now empty)

pub returns-then-most-eq0 : goal.returns-then-most-eq0
returns-then-most-eq0 t c =
    let some : ¬ (length c.args.rest.now ≡ 0) = search rules in
    sym (ap needs_of (no_tables c.args.most c.args.rest.now (search rules) some))

pub returns-in_err-table : goal.returns-in_err-table
returns-in_err-table t c =
    let rest = c.args.rest.now in
    let most = c.args.most in
    let some : ¬ (length rest ≡ 0) = search rules in
    let more : ¬ (most ≡ 0) = search rules in
    let gives : c.from_residual.result ≡ None = search rules in
    let none : c.first_table.result ≡ None = search rules in
    let refused : ¬ (table_verdict (first_bytes rest) ≡ Ok tt) = subst (FirstTable rest) none c.first_table.ensures in
    gives
    ∙ needs_refused (first_bytes rest) (table_verdict (first_bytes rest)) (tables_in (most - 1) (bytes_behind rest))
    refused
    ∙ ap needs_of (sym (tables_step most rest more some))

pub returns-in_err-behind : goal.returns-in_err-behind
returns-in_err-behind t c =
    let rest = c.args.rest.now in
    let most = c.args.most in
    let table = c.in_ok-table.table in
    let some : ¬ (length rest ≡ 0) = search rules in
    let more : ¬ (most ≡ 0) = search rules in
    let gives : c.from_residual-in_err-behind.result ≡ None = search rules in
    let none : c.measure.result ≡ None = search rules in
    let found : c.first_table.result ≡ Some table = search rules in
    let first : table.bytes.now ≡ first_bytes rest = subst (FirstTable rest) found c.first_table.ensures in
    let behind = rest_slice rest table.bytes.now first in
    gives
    ∙ needs_none (first_bytes rest) (table_verdict (first_bytes rest)) (tables_in (most - 1) (bytes_behind rest))
    (sym none ∙ c.measure.ensures ∙ ap (λ (xs : List ℕ). needs_of (tables_in (most - 1) xs)) behind)
    ∙ ap needs_of (sym (tables_step most rest more some))

pub overflow_add-result : goal.overflow_add-result
overflow_add-result t c =
    let got : c.measure.result ≡ Some c.in_ok-behind.behind = search rules in
    let few = needs_few (c.args.most - 1) _ c.in_ok-behind.behind (sym got ∙ c.measure.ensures) in
    omega (arith, few.0, c.requires)

pub overflow_add-result-2 : goal.overflow_add-result-2
overflow_add-result-2 t c =
    let got : c.measure.result ≡ Some c.in_ok-behind.behind = search rules in
    let few = needs_few (c.args.most - 1) _ c.in_ok-behind.behind (sym got ∙ c.measure.ensures) in
    let steps = steps_few c.in_ok-table.table.bytes.now c.in_ok-table.table.passes in
    omega (arith, few.1, c.requires, steps, c.step_count.ensures)

pub returns : goal.returns
returns t c =
    let rest = c.args.rest.now in
    let most = c.args.most in
    let table = c.in_ok-table.table in
    let one : List ℕ = table.bytes.now in
    let b = c.in_ok-behind.behind in
    let some : ¬ (length rest ≡ 0) = search rules in
    let more : ¬ (most ≡ 0) = search rules in
    let got : c.measure.result ≡ Some b = search rules in
    let found : c.first_table.result ≡ Some table = search rules in
    let first : one ≡ first_bytes rest = subst (FirstTable rest) found c.first_table.ensures in
    let behind = rest_slice rest one first in
    let needs = sym got ∙ c.measure.ensures ∙ ap (λ (xs : List ℕ). needs_of (tables_in (most - 1) xs)) behind in
    let steps : c.step_count.result ≡ steps_in one = c.step_count.ensures in
    let largest : c.max.result ≡ max (variable_formula (table_of one)) b.variables = search rules in
    (λ i. Some (record { tables = 1 + b.tables; steps = steps i + b.steps; variables = largest i }))
    ∙ needs_more one (table_verdict one) (tables_in (most - 1) (bytes_behind rest)) b table.passes needs
    ∙ ap (λ (xs : List ℕ). needs_of (in_front xs (table_verdict xs) (tables_in (most - 1) (bytes_behind rest)))) first
    ∙ ap needs_of (sym (tables_step most rest more some))
