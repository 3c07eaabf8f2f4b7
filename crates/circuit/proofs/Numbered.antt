-- The variables can be told apart by their numbers, and the formula says how many there are.
use mathlib.Core.Path.{subst, sym}
use Prim.Native.Nat.{ℕ, ◌≤◌}
use Rattle.circuit.specs.Exact.{VariablesAreTheNumbers}
use Rattle.circuit.proofs.Count.{count_formula, few_variables}
use Rattle.circuit.proofs.Distinct.{variables_distinct, step_first}

pub variables_are_the_numbers : VariablesAreTheNumbers
variables_are_the_numbers T wf = record {
  distinct = variables_distinct T;
  step_first = step_first T;
  counted = count_formula T wf;
  few = subst (λ (k : ℕ). k ≤ 223392) (sym (count_formula T wf)) (few_variables T wf);
}
