-- `lowest_unsettled` meets its contract.
use native.Mathlib.Omega.{arith}
use Rattle.std.proofs.Common.{rules}
use lib.ListN.{length}
use Rattle.table.specs.Table.{table_of}
use Rattle.search.specs.StepRows.{is_unsettled}
use Rattle.search.proofs.Lowest.{lowest_here, lowest_nowhere}
use Rattle.search.proofs.step_rows.lowest_unsettled.Goals as goal

pub returns-then-not-is_settled : goal.returns-then-not-is_settled
returns-then-not-is_settled c =
    let T = table_of c.args.table.now.bytes.now in
    lowest_here (length T.steps) (is_unsettled T c.args.rows.now) c.loop-j.j (omega arith) c.loop-j.invariant
    (search rules)

pub returns : goal.returns
returns c =
    let T = table_of c.args.table.now.bytes.now in
    lowest_nowhere (length T.steps) (is_unsettled T c.args.rows.now) (λ i h. c.loop-j.invariant i (omega arith))
