-- `kept_states` meets its contract.
use Prim.Native.Nat.{ℕ, ◌+◌, ◌<◌}
use mathlib.Core.Path.{ap, ◌∙◌}
use mathlib.Core.Bool.{◌||◌}
use native.Mathlib.Omega.{arith}
use lib.Dec.{eqb}
use lib.ListN.{length}
use Rattle.sets.specs.Member.{member, set_of}
use Rattle.table.specs.declared.record.Step.{Step}
use Rattle.table.specs.Table.{table_of}
use Rattle.search.proofs.StepEnds.{from_below}
use Rattle.repair.proofs.Rounds.{KeptBefore, kept_none, kept_with, kept_without, kept_all}
use Rattle.repair.proofs.reached.kept_states.Goals as goal
use Rattle.repair.proofs.reached.kept_states.Goals.{then-byte-eq1, else-byte-eq1}

pub loop-j-init : goal.loop-j-init
loop-j-init c = kept_none _ _

pub loop-j-preserved : goal.loop-j-preserved
loop-j-preserved c =
    let table = c.args.table.now in
    let T = table_of table.bytes.now in
    let list = c.args.list.now in
    let l = c.loop-j in
    let inside : l.j < length T.steps = omega (arith, c.requires) in
    elim c.if-byte-eq1.branch as (λ _. KeptBefore T list (l.j + 1) c.if-byte-eq1.kept) [
      | then-byte-eq1 w ↦
          let from_is = ap (λ (y : Step). y.from) w.step-x.ensures in
          rw w.kept-is (kept_with T list l.j l.kept l.invariant inside w.if-byte-eq1.true
          (from_below table.bytes.now l.j table.passes inside) w.insert-kept.result
          (w.insert-kept.ensures ∙ ap (λ (s : ℕ). set_of 32 (λ t. member l.kept t || eqb t s)) from_is))
      | else-byte-eq1 w ↦ rw w.kept-is (kept_without T list l.j l.kept l.invariant w.if-byte-eq1.false)
    ]

pub returns : goal.returns
returns c = kept_all (table_of c.args.table.now.bytes.now) c.args.list.now c.loop-j.j c.loop-j.kept c.loop-j.invariant
    (omega (arith, c.requires))
