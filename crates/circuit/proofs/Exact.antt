-- The formula of an accepted table is the number of its circuit's variables, and at most 223392.
use Prim.Native.Nat.{ℕ, ◌≤◌}
use mathlib.Core.Path.{◌≡◌, sym}
use mathlib.Core.List.{List}
use Rattle.std.specs.Prelude.{Ok}
use Rattle.table.specs.Table.{table_of}
use Rattle.table.specs.Accept.{table_verdict}
use Rattle.table.proofs.Facts.{accepted}
use Rattle.circuit.specs.Variables.{variable_count, variable_formula}
use Rattle.circuit.proofs.Count.{count_formula, few_variables}

-- The formula counts the variables.
pub count_exact : (bytes : List ℕ) → table_verdict bytes ≡ Ok tt
    → variable_formula (table_of bytes) ≡ variable_count (table_of bytes)
count_exact bytes ok = sym (count_formula (table_of bytes) (accepted bytes ok).table)

-- There are at most 223392.
pub count_most : (bytes : List ℕ) → table_verdict bytes ≡ Ok tt → variable_formula (table_of bytes) ≤ 223392
count_most bytes ok = few_variables (table_of bytes) (accepted bytes ok).table
