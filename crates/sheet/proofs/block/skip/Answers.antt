-- `skip` meets its contract, line by line.
use Prim.Native.Nat.{ℕ, ◌+◌, ◌-◌}
use mathlib.Core.Path.{◌≡◌, sym, ap, ◌∙◌}
use native.Mathlib.Omega.{arith}
use Rattle.sheet.specs.Parse.{times}
use Rattle.sheet.specs.Reading.{passing, values}
use Rattle.sheet.proofs.Times.{behind, behind_none, times_next, times_broken, times_values}
use Rattle.sheet.proofs.block.skip.Goals as goal

pub returns-in_err-behind : goal.returns-in_err-behind
returns-in_err-behind g c =
    let a = c.args in
    let p = g.L.Line.parser in
    let n = a.count - c.loop.counter in
    ap (passing (values a.count p a.text.now)) c.from_residual.ensures
    ∙ sym (behind_none (times a.count p a.text.now)
    (c.loop.invariant ∙ times_broken p n c.loop.rest.now (omega arith) (sym c.in_err-behind.ensures)))

pub loop-preserved : goal.loop-preserved
loop-preserved g c =
    let a = c.args in
    let p = g.L.Line.parser in
    let n = a.count - c.loop.counter in
    let fewer : n - 1 ≡ a.count - (c.loop.counter + 1) = omega arith in
    c.loop.invariant
    ∙ times_next p n c.loop.rest.now c.in_ok-behind.field-0-0 c.in_ok-behind.behind.now (omega arith)
    (sym c.in_ok-behind.ensures)
    ∙ ap (λ (k : ℕ). behind (times k p c.in_ok-behind.behind.now)) fewer

pub returns : goal.returns
unfolding times
returns g c =
    let a = c.args in
    let p = g.L.Line.parser in
    let none_left : a.count - c.loop.counter ≡ 0 = omega arith in
    sym (times_values p a.count a.text.now c.loop.rest.now
    (c.loop.invariant ∙ ap (λ (k : ℕ). behind (times k p c.loop.rest.now)) none_left))
