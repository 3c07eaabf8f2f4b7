-- `write_steps` meets its contract, step by step.
use Prim.Native.Nat.{ℕ, ◌+◌, ◌≤◌, ◌<◌}
use mathlib.Core.Path.{◌≡◌, sym, ap, ◌∙◌}
use mathlib.Core.List.{List, ◌++◌}
use native.Mathlib.Omega.{arith}
use lib.ListN.{length, get_or}
use Rattle.table.specs.declared.accepted.Accepted.{Accepted}
use Rattle.table.specs.declared.record.Step.{Step}
use Rattle.table.specs.Table.{steps_of, zero_step}
use Rattle.table.proofs.Facts.{accepted}
use Rattle.render.proofs.Left.{Left, left_as, left_room, left_next, left_done}
use Rattle.report.specs.Texts.{kept_line}
use Rattle.report.proofs.Kept.{kept_from, kept_next, kept_done}
use Rattle.report.proofs.steps.write_steps.Goals as goal

-- the line of x, the step at j, is next
line_next : (t : List ℕ) (at : ℕ) (steps : List Step) (list : List ℕ) (j : ℕ) (x : Step) {now : List ℕ} {place : ℕ}
    → j < length steps
    → j < length list
    → x ≡ get_or steps j zero_step
    → Left t at (kept_from steps list 0) now place (kept_from steps list j)
    → Left t at (kept_from steps list 0) now place (kept_line x (get_or list j 0) ++ kept_from steps list (j + 1))
line_next t at steps list j x h l here k =
    left_as _ _ _ _ _ _ _ (kept_next steps list j h l
    ∙ ap (λ (y : Step). kept_line y (get_or list j 0) ++ kept_from steps list (j + 1)) (sym here)) k

-- a table has no more steps than the list has bytes
few_steps : (table : Accepted) → length (steps_of table.bytes.now) ≤ 128
few_steps table = (accepted table.bytes.now table.passes).table.few_steps

pub bounds-list-j : goal.bounds-list-j
bounds-list-j c = omega (arith, c.loop-j-test.true, c.step_count-j-end.ensures, few_steps c.args.table.now)

pub write_values-place-requires : goal.write_values-place-requires
write_values-place-requires c =
    let a = c.args in
    let x = c.step-x in
    let j = c.loop-j.j in
    let steps = steps_of a.table.now.bytes.now in
    let here : j < length steps = omega (arith, c.loop-j-test.true, c.step_count-j-end.ensures) in
    let k = line_next a.text.now a.at steps a.list.now j x.result here
    (omega (arith, here, few_steps a.table.now, c.told-list)) x.ensures c.loop-j.invariant in
    left_room _ _ _ _ _ (kept_line x.result (get_or a.list.now j 0)) _ k c.requires

pub loop-j-preserved : goal.loop-j-preserved
loop-j-preserved c =
    let a = c.args in
    let x = c.step-x in
    let j = c.loop-j.j in
    let steps = steps_of a.table.now.bytes.now in
    let here : j < length steps = omega (arith, c.loop-j-test.true, c.step_count-j-end.ensures) in
    let k = line_next a.text.now a.at steps a.list.now j x.result here
    (omega (arith, here, few_steps a.table.now, c.told-list)) x.ensures c.loop-j.invariant in
    left_next _ _ _ _ _ _ _ k _ _ c.write_values-place.ensures

pub returns : goal.returns
returns c =
    let a = c.args in
    let v = c.loop-j in
    left_done _ _ _ _ _ (left_as _ _ _ _ _ _ _
    (kept_done (steps_of a.table.now.bytes.now) a.list.now v.j
    (omega (arith, c.loop-j-test.false, c.step_count-j-end.ensures))) v.invariant)
