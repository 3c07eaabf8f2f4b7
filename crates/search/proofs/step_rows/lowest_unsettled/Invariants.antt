-- `lowest_unsettled` meets its contract. The loop's invariant: no step before j is unsettled.
use Prim.Native.Nat.{ℕ, ◌<◌}
use mathlib.Core.Path.{◌≡◌}
use mathlib.Core.Bool.{false}
use Rattle.table.specs.Table.{table_of}
use Rattle.search.specs.StepRows.{is_unsettled}
use Rattle.search.proofs.step_rows.lowest_unsettled.Given as goal

abbrev pub invariant-loop-j : goal.invariant-loop-j
invariant-loop-j l = (i : ℕ) → i < l.j → is_unsettled (table_of l.table.bytes.now) l.rows i ≡ false
