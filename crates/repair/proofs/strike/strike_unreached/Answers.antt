-- `strike_unreached` meets its contract.
use Prim.Native.Nat.{ℕ, ◌+◌, ◌<◌}
use mathlib.Core.Path.{◌≡◌, sym, ap, ◌∙◌}
use native.Mathlib.Omega.{arith}
use lib.ListN.{length}
use Rattle.sets.specs.Member.{member}
use Rattle.sets.proofs.SetOf.{member-set_of-below}
use Rattle.table.specs.declared.record.Step.{Step}
use Rattle.table.specs.Table.{step_at}
use Rattle.ctl.specs.Reached.{is_reached}
use Rattle.events.specs.NetTable.{table_in}
use Rattle.search.proofs.StepEnds.{from_below}
use Rattle.repair.proofs.Struck.{StruckBefore, struck_not, struck_at, struck_all}
use Rattle.repair.proofs.strike.strike_unreached.Goals as goal
use Rattle.repair.proofs.strike.strike_unreached.Goals.{then-not-contains, else-not-contains}

pub loop-j-preserved : goal.loop-j-preserved
loop-j-preserved c =
    let table = c.args.net.now.table in
    let list = c.args.list.now in
    let T = table_in c.args.net.now in
    let l = c.loop-j in
    let inside : l.j < length list = omega (arith, c.loop-j-test.true) in
    let listed : l.j < length T.steps = omega (arith, c.requires) in
    let reached : c.contains.result ≡ is_reached T list (step_at T l.j).from =
    c.contains.ensures
    ∙ ap (λ (x : Step). member c.reached_states-reached.result x.from) c.step-x.ensures
    ∙ ap (λ (w : ℕ). member w (step_at T l.j).from) c.reached_states-reached.ensures
    ∙ member-set_of-below 32 (is_reached T list) (step_at T l.j).from
    (from_below table.bytes.now l.j table.passes listed) in
    elim c.if-not-contains.branch as (λ _. StruckBefore T list (l.j + 1) c.if-not-contains.list) [
      | then-not-contains w ↦ rw w.list-is
          (struck_at T list l.j l.list l.invariant listed (sym reached ∙ w.if-not-contains.true) inside)
      | else-not-contains w ↦ rw w.list-is
          (struck_not T list l.j l.list l.invariant listed (sym reached ∙ w.if-not-contains.false))
    ]

pub returns : goal.returns
returns c =
    let l = c.loop-j in
    struck_all (table_in c.args.net.now) c.args.list.now l.j l.list l.invariant c.requires
    (omega (arith, c.loop-j-test.false))
