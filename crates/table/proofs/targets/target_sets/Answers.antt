-- `target_sets` meets its contract. The loop's invariant: the rows are those of the steps before j.
use Prim.Native.Nat.{◌+◌, ◌<◌}
use mathlib.Core.Path.{◌≡◌, refl}
use mathlib.Core.List.{[], ◌∷◌, ◌++◌}
use native.Mathlib.Numerals.{add-one}
use native.Mathlib.Omega.{arith}
use lib.ListN.{length, take}
use lib.Seq.{take-suc, take_all}
use Rattle.table.specs.Table.{table_of, zero_step}
use Rattle.table.proofs.Facts.{step_ends}
use Rattle.table.proofs.Rows.{rows_none, rows_more}
use Rattle.table.proofs.TargetSets.{rows_targets}
use Rattle.table.proofs.targets.target_sets.Goals as goal
use Rattle.table.proofs.targets.target_sets.Goals.{After-step-x}

-- both ends of the step that was read are among the 32 states
ends : (c : After-step-x) → (c.step-x.result.from < 32) × (c.step-x.result.to < 32)
ends c =
    let table = c.args.table.now in
    step_ends table.bytes.now table.passes c.loop-j.j (omega arith) c.step-x.result c.step-x.ensures

pub loop-j-init : goal.loop-j-init
loop-j-init c = rows_none

pub offset_bounds-rows-x : goal.offset_bounds-rows-x
offset_bounds-rows-x c = omega (arith, ends c)

pub bounds-rows-x : goal.bounds-rows-x
bounds-rows-x c = (ends c).0

pub loop-j-preserved : goal.loop-j-preserved
loop-j-preserved c =
    let xs = (table_of c.args.table.now.bytes.now).steps in
    let j = c.loop-j.j in
    let x = c.step-x.result in
    let low = step_ends c.args.table.now.bytes.now c.args.table.now.passes j (omega arith) x c.step-x.ensures in
    let h : j < length xs = omega arith in
    let more : take (j + 1) xs ≡ take j xs ++ (x ∷ []) = rw (add-one j, take-suc xs j zero_step, c.step-x.ensures) refl in
    rw (more, c.insert.ensures) (rows_more c.loop-j.rows (take j xs) c.loop-j.invariant x low.0 low.1)

pub returns : goal.returns
returns c =
    let xs = (table_of c.args.table.now.bytes.now).steps in
    let all : take c.loop-j.j xs ≡ xs = take_all c.loop-j.j xs (omega arith) in
    rows_targets xs c.loop-j.rows (rw all at c.loop-j.invariant)
