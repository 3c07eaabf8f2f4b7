-- `put_number` meets its contract. The measure is the number itself, which is more than its tenth.
use native.Mathlib.Omega.{arith}
use Rattle.render.proofs.Number.{low_length, low_stored, high_length, high_stored}
use Rattle.render.proofs.emit.+put_number.Goals as goal

pub bounds-text-at : goal.bounds-text-at
bounds-text-at t c = omega (arith, low_length c.args.value c.if-value-lt10.true)

pub overflow_add-result : goal.overflow_add-result
overflow_add-result t c = omega (arith, low_length c.args.value c.if-value-lt10.true)

pub returns-then-value-lt10 : goal.returns-then-value-lt10
returns-then-value-lt10 t c = low_stored c.args.text.now c.args.at c.args.value c.if-value-lt10.true

pub put_number-next-requires : goal.put_number-next-requires
put_number-next-requires t c =
    let n = high_length c.args.value c.if-value-lt10.false in
    (omega (arith, c.decreases), omega arith)

pub bounds-text-next : goal.bounds-text-next
bounds-text-next t c =
    let n = high_length c.args.value c.if-value-lt10.false in
    let size = c.put_number-next.auto.text in
    omega arith

pub overflow_add-result-2 : goal.overflow_add-result-2
overflow_add-result-2 t c =
    let n = high_length c.args.value c.if-value-lt10.false in
    omega arith

pub returns : goal.returns
returns t c =
    let p = c.put_number-next in
    high_stored c.args.text.now c.args.at c.args.value c.if-value-lt10.false p.new.text p.result p.ensures
