-- `start_visit` meets its contract: the initial states and the root.
use Prim.Native.Nat.{ℕ, ◌-◌}
use mathlib.Core.Path.{ap}
use native.Mathlib.Omega.{arith}
use Rattle.events.proofs.SettingFacts.{wellformed, all_words}
use Rattle.events.proofs.VisitKept.{rows_step, start_does}
use Rattle.events.proofs.visit.start_visit.Goals as goal

pub overflow_sub-root : goal.overflow_sub-root
overflow_sub-root c = omega (arith, c.node_count-root.ensures, (wellformed c.args.net.now).some_node)

pub start_step-requires-clause-root_below : goal.start_step-requires-clause-root_below
start_step-requires-clause-root_below c = omega (
  arith,
  c.node_count-root.ensures,
  (wellformed c.args.net.now).some_node,
  (wellformed c.args.net.now).few_nodes,
)

pub start_step-requires-clause-room : goal.start_step-requires-clause-room
start_step-requires-clause-room c = omega (arith, c.requires, all_words c.args.net.now)

pub returns : goal.returns
returns c =
    let a = c.args in
    let s = c.start_step in
    let root = ap (λ (f : ℕ). f - 1) c.node_count-root.ensures in
    λ w sized. rows_step a.net.now a.rows.now s.new.rows a.looks.now s.new.looks s.result s.ensures.calm
    s.ensures.marked w sized
    (start_does a.net.now _ root _ _ _ sized (s.ensures.value w))
