-- `settled_steps` meets its contract. The loop's invariant: the settled steps before j are counted.
use Prim.Native.Nat.{ℕ, ◌+◌, ◌≤◌, ◌<◌}
use mathlib.Core.List.{List}
use mathlib.Core.Path.{◌≡◌, refl, sym, ap, ◌∙◌}
use mathlib.Core.Bool.{Bool, cond}
use native.Mathlib.Omega.{arith}
use mir.Val.{bool_byte}
use lib.ListN.{length}
use Rattle.sets.specs.Member.{count_of}
use Rattle.sets.proofs.SetOf.{count_of_next, count_of-le}
use Rattle.table.specs.Table.{Table, table_of, step_at}
use Rattle.table.specs.Facts.{Wellformed}
use Rattle.table.proofs.Facts.{accepted}
use Rattle.table.proofs.Bools.{flag_byte}
use Rattle.rows.specs.Steps.{step_settled}
use Rattle.closure.proofs.settled.settled_steps.Goals as goal

-- whether step j is settled
abbrev settled : Table → List ℕ → ℕ → Bool
settled T rows j = step_settled rows (step_at T j)

-- with the settled steps before j counted, and step j tested, those before j + 1 are counted
count_more : (T : Table) (rows : List ℕ) (count j : ℕ) → count ≡ count_of j (settled T rows) → (tested : Bool)
    → tested ≡ settled T rows j
    → count + bool_byte tested ≡ count_of (j + 1) (settled T rows)
count_more T rows count j before tested is =
    (λ i. before i + (flag_byte tested ∙ ap (λ (b : Bool). cond b 1 0) is) i) ∙ sym (count_of_next j (settled T rows))

-- and they are few
few : (T : Table) → Wellformed T → (rows : List ℕ) (more j : ℕ) → j < length T.steps
    → more ≡ count_of (j + 1) (settled T rows) → more ≤ 128
few T wf rows more j h e = omega (arith, count_of-le (j + 1) (settled T rows), wf.few_steps)

pub loop-j-init : goal.loop-j-init
unfolding count_of
loop-j-init c = refl

pub is_settled-requires : goal.is_settled-requires
is_settled-requires c =
    let t = c.args.table.now in
    let wf = (accepted t.bytes.now t.passes).table in
    let j : c.loop-j.j < length (table_of t.bytes.now).steps = omega arith in
    omega (
      arith,
      ap (λ (x : Rattle.table.specs.declared.record.Step.Step). x.from) c.step.ensures,
      wf.from_state c.loop-j.j j,
      wf.few_states,
    )

pub overflow_add-count : goal.overflow_add-count
overflow_add-count c =
    let t = c.args.table.now in
    let T = table_of t.bytes.now in
    let l = c.loop-j in
    let rows = c.args.rows.now in
    let more = count_more T rows l.count l.j l.invariant c.is_settled.result
    (c.is_settled.ensures ∙ ap (step_settled rows) c.step.ensures) in
    let small = few T (accepted t.bytes.now t.passes).table rows _ l.j (omega arith) more in
    omega (arith, small)

pub loop-j-preserved : goal.loop-j-preserved
loop-j-preserved c =
    let rows = c.args.rows.now in
    let l = c.loop-j in
    count_more (table_of c.args.table.now.bytes.now) rows l.count l.j l.invariant c.is_settled.result
    (c.is_settled.ensures ∙ ap (step_settled rows) c.step.ensures)
