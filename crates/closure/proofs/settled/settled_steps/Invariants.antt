-- `settled_steps` meets its contract. The loop's invariant: the settled steps before j are counted.
use mathlib.Core.Path.{◌≡◌}
use Rattle.sets.specs.Member.{count_of}
use Rattle.table.specs.Table.{table_of, step_at}
use Rattle.rows.specs.Steps.{step_settled}
use Rattle.closure.proofs.settled.settled_steps.Given as goal

abbrev pub invariant-loop-j : goal.invariant-loop-j
invariant-loop-j l = l.count ≡ count_of l.j (λ i. step_settled l.rows (step_at (table_of l.table.bytes.now) i))
