-- `reached_states` meets its contract.
use Prim.Native.Nat.{ℕ}
use mathlib.Core.Path.{◌≡◌, ap₂, ◌∙◌}
use mathlib.Core.Bool.{◌&&◌}
use native.Mathlib.Omega.{arith}
use Rattle.sets.specs.Member.{member, set_of}
use Rattle.table.proofs.Facts.{accepted}
use Rattle.ctl.specs.Labels.{is_kept}
use Rattle.closure.specs.Rest.{initial_set}
use Rattle.events.specs.NetTable.{table_in}
use Rattle.repair.proofs.ReachedBy.{reached_first, reached_round, reached_still, reached_last}
use Rattle.repair.proofs.reached.reached_states.Goals as goal

pub loop-m-init : goal.loop-m-init
loop-m-init c =
    let net = c.args.net.now in
    let T = table_in net in
    let list = c.args.list.now in
    let starts : c.intersection-reached.result
    ≡ set_of 32 (λ t. member (initial_set T) t && member (set_of 32 (is_kept T list)) t) =
    c.intersection-reached.ensures
    ∙ ap₂ (λ (a b : ℕ). set_of 32 (λ t. member a t && member b t)) net.setting.initial_states
    c.kept_states-kept.ensures in (
      c.state_count-n.ensures,
      reached_first T (accepted net.table.bytes.now net.table.passes).table list c.intersection-reached.result starts,
    )

pub returns-then-next-reached : goal.returns-then-next-reached
returns-then-next-reached c =
    let net = c.args.net.now in
    let l = c.loop-m in
    reached_still (table_in net) (accepted net.table.bytes.now net.table.passes).table c.args.list.now l._m l.reached
    c.add_ends-next.result l.invariant.1 c.add_ends-next.ensures c.if-next-reached.true

pub loop-m-preserved : goal.loop-m-preserved
loop-m-preserved c =
    let net = c.args.net.now in
    let l = c.loop-m in (
      l.invariant.0,
      reached_round (table_in net) (accepted net.table.bytes.now net.table.passes).table c.args.list.now
          l._m l.reached c.add_ends-next.result l.invariant.1 c.add_ends-next.ensures,
    )

pub returns : goal.returns
returns c =
    let net = c.args.net.now in
    let l = c.loop-m in
    reached_last (table_in net) (accepted net.table.bytes.now net.table.passes).table c.args.list.now l._m l.reached
    l.invariant.1 (omega (arith, l.invariant.0, c.loop-m-test.false))
