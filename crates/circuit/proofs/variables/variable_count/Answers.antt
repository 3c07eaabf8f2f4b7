-- `variable_count` meets its contract.
use mathlib.Core.Path.{◌∙◌}
use native.Mathlib.Omega.{arith}
use Rattle.table.specs.Table.{table_of}
use Rattle.table.proofs.Facts.{accepted}
use Rattle.circuit.specs.Tally.{tallied}
use Rattle.circuit.proofs.Count.{count_formula}
use Rattle.circuit.proofs.variables.variable_count.Goals as goal

pub variables_of-requires : goal.variables_of-requires
variables_of-requires c =
    let t = c.args.table.now in
    let wf = (accepted t.bytes.now t.passes).table in (
      omega (arith, wf.few_states, c.state_count.ensures),
      omega (arith, wf.few_steps, c.step_count.ensures),
      omega (arith, wf.few_nodes, c.tallies_of.ensures.right.all_nodes),
    )

pub returns-clause-counted : goal.returns-clause-counted
returns-clause-counted c =
    c.variables_of.ensures
    ∙ (λ i. tallied (c.state_count.ensures i) (c.step_count.ensures i) c.tallies_of.result)
    ∙ c.tallies_of.ensures.right.add_up

pub returns-clause-formula : goal.returns-clause-formula
returns-clause-formula c =
    let t = c.args.table.now in
    returns-clause-counted c ∙ count_formula (table_of t.bytes.now) (accepted t.bytes.now t.passes).table
