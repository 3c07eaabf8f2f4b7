-- `kept_rows` meets its contract: a step that is kept is in its row, and one that is struck changes nothing.
use Prim.Native.Nat.{ℕ, ◌+◌, ◌<◌}
use mathlib.Core.Path.{◌≡◌, ap, ◌∙◌}
use mathlib.Core.List.{◌++◌}
use native.Mathlib.Numerals.{add-one}
use native.Mathlib.Omega.{arith}
use lib.ListN.{length, get_or, take}
use lib.Seq.{take_all}
use Rattle.table.specs.Table.{table_of, step_at, zero_step}
use Rattle.table.specs.Rows.{Rows}
use Rattle.table.proofs.Rows.{rows_none}
use Rattle.table.proofs.TargetSets.{rows_targets}
use Rattle.ctl.specs.Labels.{kept_steps}
use Rattle.label.proofs.KeptSteps.{if_kept, kept_more, step_ends, with_kept, with_struck}
use Rattle.label.proofs.rows.kept_rows.Goals as goal
use Rattle.label.proofs.rows.kept_rows.Goals.{then-bit-eq1, else-bit-eq1}

pub loop-j-init : goal.loop-j-init
unfolding kept_steps
loop-j-init c = rows_none

pub offset_bounds-rows-x : goal.offset_bounds-rows-x
offset_bounds-rows-x c =
    let t = c.args.table.now in
    let r = step_ends t.bytes.now t.passes c.loop-j.j (omega arith) c.step-x.result c.step-x.ensures in
    omega (arith, r.from_below)

pub bounds-rows-x : goal.bounds-rows-x
bounds-rows-x c =
    let t = c.args.table.now in
    (step_ends t.bytes.now t.passes c.loop-j.j (omega arith) c.step-x.result c.step-x.ensures).from_below

pub offset_bounds-rows-x-then-bit-eq1 : goal.offset_bounds-rows-x-then-bit-eq1
offset_bounds-rows-x-then-bit-eq1 c =
    let t = c.args.table.now in
    let r = step_ends t.bytes.now t.passes c.loop-j.j (omega arith) c.step-x.result c.step-x.ensures in
    omega (arith, r.from_below)

pub bounds-rows-x-then-bit-eq1 : goal.bounds-rows-x-then-bit-eq1
bounds-rows-x-then-bit-eq1 c =
    let t = c.args.table.now in
    (step_ends t.bytes.now t.passes c.loop-j.j (omega arith) c.step-x.result c.step-x.ensures).from_below

pub loop-j-preserved : goal.loop-j-preserved
loop-j-preserved c =
    let t = c.args.table.now in
    let l = c.args.list.now in
    let xs = (table_of t.bytes.now).steps in
    let j = c.loop-j.j in
    let rows = c.loop-j.rows in
    let before = kept_steps (take j xs) (take j l) in
    let inside : j < length l = omega arith in
    let more : kept_steps (take (j + 1) xs) (take (j + 1) l)
    ≡ before ++ if_kept (get_or l j 0) (step_at (table_of t.bytes.now) j) =
    ap (λ (k : ℕ). kept_steps (take k xs) (take k l)) (add-one j) ∙ kept_more xs l j zero_step c.requires inside in
    let row_of : Rows c.if-bit-eq1.rows (before ++ if_kept (get_or l j 0) (step_at (table_of t.bytes.now) j)) =
    elim c.if-bit-eq1.branch as (λ _. Rows c.if-bit-eq1.rows
    (before ++ if_kept (get_or l j 0) (step_at (table_of t.bytes.now) j))) [
      | then-bit-eq1 w ↦ with_kept rows c.if-bit-eq1.rows before c.loop-j.invariant t.bytes.now j
          (get_or l j 0) w.insert.result w.step-x.result
          (step_ends t.bytes.now t.passes j (omega arith) w.step-x.result w.step-x.ensures)
          w.if-bit-eq1.true w.insert.ensures w.rows-is
      | else-bit-eq1 w ↦ with_struck rows c.if-bit-eq1.rows before c.loop-j.invariant (get_or l j 0)
          (step_at (table_of t.bytes.now) j) w.if-bit-eq1.false w.rows-is
    ]
    in
    rw more row_of

pub returns : goal.returns
returns c =
    let l = c.args.list.now in
    let xs = (table_of c.args.table.now.bytes.now).steps in
    let j = c.loop-j.j in
    let whole : kept_steps (take j xs) (take j l) ≡ kept_steps xs l =
    (λ i. kept_steps (take_all j xs (omega arith) i) (take_all j l (omega arith) i)) in
    rows_targets (kept_steps xs l) c.loop-j.rows (rw whole at c.loop-j.invariant)
