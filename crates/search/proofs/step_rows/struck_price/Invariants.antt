-- `struck_price` meets its contract. The loop's invariant: the prices of the struck steps before j are added up, each
-- of them a byte.
use Prim.Native.Nat.{ℕ, ◌*◌, ◌≤◌}
use mathlib.Core.Path.{◌≡◌}
use mathlib.Core.Bool.{false, cond}
use mathlib.Core.List.{List}
use lib.ListN.{length}
use Rattle.table.specs.Table.{Table, table_of, step_at}
use Rattle.ctl.specs.Price.{sum_below}
use Rattle.rows.specs.Steps.{step_bit}
use Rattle.search.proofs.step_rows.struck_price.Given as goal

-- what step i costs, where it is struck
abbrev pub cost : Table → List ℕ → ℕ → ℕ
cost T rows i = cond (step_bit rows false (step_at T i)) (step_at T i).price 0

abbrev pub invariant-loop-j : goal.invariant-loop-j
invariant-loop-j l =
    let T = table_of l.table.bytes.now in (l.j-end ≡ length T.steps) × (l.price ≡ sum_below l.j (cost T l.rows))
    × (l.price ≤ 255 * l.j)
