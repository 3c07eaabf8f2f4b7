-- `struck_price` meets its contract.
use Prim.Native.Nat.{ℕ, ◌+◌, ◌≤◌, ◌<◌, zero-le}
use mathlib.Core.List.{List}
use mathlib.Core.Path.{◌≡◌, refl, sym, ap, ◌∙◌}
use mathlib.Core.Bool.{false, cond}
use native.Mathlib.Omega.{arith}
use Rattle.table.specs.declared.record.Step.{Step}
use Rattle.table.specs.Table.{Table, table_of, step_at}
use Rattle.table.proofs.Facts.{accepted}
use Rattle.ctl.specs.Price.{sum_below}
use Rattle.ctl.proofs.Sums.{sum_next}
use Rattle.ctl.proofs.Price.{cond_most}
use Rattle.rows.specs.Steps.{step_bit}
use Rattle.search.proofs.StepEnds.{from_below}
use Rattle.search.proofs.step_rows.struck_price.Invariants.{cost}
use Rattle.search.proofs.step_rows.struck_price.Goals as goal

-- what the call gives is what step j costs, where it is struck, and no more than a byte says
one_step : (T : Table) (rows : List ℕ) (j : ℕ) (x : Step) (price : ℕ) → x ≡ step_at T j → (step_at T j).price < 256
    → price ≡ cond (step_bit rows false x) x.price 0 → (price ≡ cost T rows j) × (price ≤ 255)
one_step T rows j x price here byte given =
    let same = given ∙ ap (λ (y : Step). cond (step_bit rows false y) y.price 0) here in
    (same, rw same (cond_most (step_bit rows false (step_at T j)) _ 255 (omega (arith, byte))))

pub loop-j-init : goal.loop-j-init
unfolding sum_below
loop-j-init c = (c.step_count-j-end.ensures, refl, zero-le)

pub price_if_struck-price-requires : goal.price_if_struck-price-requires
price_if_struck-price-requires c =
    let table = c.args.table.now in
    let j = c.loop-j.j in (
      rw c.step.ensures (from_below table.bytes.now j table.passes (omega arith)),
      rw c.step.ensures (table.prices_are_bytes j),
    )

pub overflow_add-price : goal.overflow_add-price
overflow_add-price c =
    let table = c.args.table.now in
    let one = one_step (table_of table.bytes.now) c.args.rows.now c.loop-j.j c.step.result
    c.price_if_struck-price.result c.step.ensures (table.prices_are_bytes c.loop-j.j)
    c.price_if_struck-price.ensures in
    omega (arith, one.1, (accepted table.bytes.now table.passes).table.few_steps)

pub loop-j-preserved : goal.loop-j-preserved
loop-j-preserved c =
    let table = c.args.table.now in
    let T = table_of table.bytes.now in
    let l = c.loop-j in
    let one = one_step T c.args.rows.now l.j c.step.result c.price_if_struck-price.result c.step.ensures
    (table.prices_are_bytes l.j) c.price_if_struck-price.ensures in (
      l.invariant.0,
      (λ i. l.invariant.1 i + one.0 i) ∙ sym (sum_next l.j (cost T c.args.rows.now)),
      omega (arith, one.1),
    )
