-- `try_from` meets its contract: the verdict on the bytes is the first refusal of their sections. The bytes are
-- bytes, and so is a price.
use Prim.Native.Nat.{ℕ}
use mathlib.Core.Path.{◌≡◌, refl, sym, ap, subst, ◌∙◌}
use mathlib.Core.List.{List}
use native.Mathlib.Omega.{arith}
use Rattle.std.proofs.Common.{rules}
use Rattle.std.specs.Prelude.{Result, Ok, Err}
use Rattle.table.specs.declared.accepted.Accepted.{Accepted}
use Rattle.table.specs.declared.counts.Counts.{Counts}
use Rattle.table.specs.declared.refusal.Refusal.{Refusal}
use Rattle.table.specs.Verdict.{◌then◌}
use Rattle.table.specs.Table.{
  records,
  state_of,
  step_of,
  node_of,
  counts_of,
  states_part,
  steps_part,
  nodes_part,
  table_of,
  state_width,
  step_width,
  node_width,
}
use Rattle.table.specs.Accept.{states_verdict, steps_verdict, nodes_verdict, table_verdict}
use Rattle.table.specs.Refused.{RightLength}
use Rattle.table.specs.From.{AcceptedFrom}
use Rattle.table.proofs.Bytes.{price_byte}
use Rattle.table.proofs.Refused.{is_table, table_refused, right_verdict}
use Rattle.table.proofs.Records.{records-length}
use Rattle.table.proofs.Verdicts.{then_refused, then_next}
use Rattle.table.proofs.accepted.AcceptedTryFromRefSliceU8.try_from.Goals as goal

-- the verdict on bytes of the right length is that of their sections, read with their counts
read_verdict : {l : List ℕ} {k : Counts} {states steps nodes : List ℕ}
    → (k ≡ counts_of l) × RightLength l
    → states ≡ states_part l
    → steps ≡ steps_part l
    → nodes ≡ nodes_part l
    → table_verdict l
    ≡ states_verdict k.props (records state_of state_width k.states states)
    then steps_verdict k.states (records step_of step_width k.steps steps)
    then nodes_verdict k.props (records node_of node_width k.nodes nodes)
read_verdict {l = l} (here, right) s t u =
    right_verdict l right
    ∙ ap (λ (n : ℕ). states_verdict (table_of l).props (table_of l).states
    then steps_verdict n (table_of l).steps
    then nodes_verdict (table_of l).props (table_of l).nodes)
    (records-length state_of state_width (counts_of l).states (states_part l))
    ∙ sym (λ i. states_verdict (here i).props (records state_of state_width (here i).states (s i))
    then steps_verdict (here i).states (records step_of step_width (here i).steps (t i))
    then nodes_verdict (here i).props (records node_of node_width (here i).nodes (u i)))

-- an answer that gives the verdict's refusal
refused : (l : List ℕ) {r : Refusal} (answer : Result Accepted Refusal) → answer ≡ Err r → table_verdict l ≡ Err r
    → AcceptedFrom l answer
refused l {r = r} answer gives e = subst (AcceptedFrom l) (sym gives) (e, table_refused l r e)

pub returns-in_err-counts : goal.returns-in_err-counts
returns-in_err-counts c =
    let gives : c.from_residual.result ≡ Err c.in_err-counts.field-0.0 = search rules in
    refused _ _ gives c.in_err-counts.ensures.refused

pub returns-in_err-check_states : goal.returns-in_err-check_states
returns-in_err-check_states c =
    let gives : c.from_residual-in_err-check_states.result ≡ Err c.in_err-check_states.field-0.0 = search rules in
    let read = read_verdict c.in_ok-counts.ensures.accepted c.state_section-states.ensures
    c.step_section-steps.ensures c.node_section-nodes.ensures in
    let first = sym c.check_states.ensures ∙ c.in_err-check_states.was in
    refused _ _ gives (read ∙ then_refused _ _ _ first ∙ first)

pub returns-in_err-check_steps : goal.returns-in_err-check_steps
returns-in_err-check_steps c =
    let gives : c.from_residual-in_err-check_steps.result ≡ Err c.in_err-check_steps.field-0.0 = search rules in
    let read = read_verdict c.in_ok-counts.ensures.accepted c.state_section-states.ensures
    c.step_section-steps.ensures c.node_section-nodes.ensures in
    let first = sym c.check_states.ensures ∙ c.in_ok-check_states.was in
    let second = sym c.check_steps.ensures ∙ c.in_err-check_steps.was in
    refused _ _ gives (read ∙ then_next _ _ first ∙ then_refused _ _ _ second ∙ second)

pub returns-in_err-check_nodes : goal.returns-in_err-check_nodes
returns-in_err-check_nodes c =
    let gives : c.from_residual-in_err-check_nodes.result ≡ Err c.in_err-check_nodes.field-0.0 = search rules in
    let read = read_verdict c.in_ok-counts.ensures.accepted c.state_section-states.ensures
    c.step_section-steps.ensures c.node_section-nodes.ensures in
    let first = sym c.check_states.ensures ∙ c.in_ok-check_states.was in
    let second = sym c.check_steps.ensures ∙ c.in_ok-check_steps.was in
    refused _ _ gives (read ∙ then_next _ _ first ∙ then_next _ _ second ∙ sym c.check_nodes.ensures
    ∙ c.in_err-check_nodes.was)

pub invariant_of-result-clause-passes : goal.invariant_of-result-clause-passes
invariant_of-result-clause-passes c =
    let read = read_verdict c.in_ok-counts.ensures.accepted c.state_section-states.ensures
    c.step_section-steps.ensures c.node_section-nodes.ensures in
    let first = sym c.check_states.ensures ∙ c.in_ok-check_states.was in
    let second = sym c.check_steps.ensures ∙ c.in_ok-check_steps.was in
    read ∙ then_next _ _ first ∙ then_next _ _ second ∙ sym c.check_nodes.ensures ∙ c.in_ok-check_nodes.was

pub invariant_of-result-clause-prices_are_bytes : goal.invariant_of-result-clause-prices_are_bytes
invariant_of-result-clause-prices_are_bytes c = price_byte c.args.bytes.now (λ k. omega (arith, c.type_inv.bytes k))

pub returns : goal.returns
returns c =
    let passes : table_verdict c.args.bytes.now ≡ Ok tt = search rules in
    (refl, (is_table c.args.bytes.now).0 passes)
