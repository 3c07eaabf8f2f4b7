-- `new` meets its contract: a table has at most 32 states.
use native.Mathlib.Omega.{arith}
use Rattle.table.proofs.Facts.{accepted}
use Rattle.label.proofs.rows.KeptRows.new.Goals as goal

pub states_with_next-requires : goal.states_with_next-requires
states_with_next-requires c =
    let t = c.args.table.now in
    omega (arith, c.state_count-states.ensures, (accepted t.bytes.now t.passes).table.few_states)

pub invariant_of-result : goal.invariant_of-result
invariant_of-result c =
    let t = c.args.table.now in
    record {
      few = omega (arith, c.state_count-states.ensures, (accepted t.bytes.now t.passes).table.few_states);
      kept_are = c.states_with_next.ensures;
    }
