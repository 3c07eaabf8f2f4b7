-- What every accepted table has, and that a record read from a section is the table's record.
use Prim.Native.Nat.{ℕ, ◌*◌, ◌≤◌, ◌<◌}
use mathlib.Core.Path.{◌≡◌, refl, sym, ap, ◌∙◌}
use mathlib.Core.Bool.{true}
use mathlib.Core.List.{List}
use native.Mathlib.Nat.{min-le_left}
use native.Mathlib.Omega.{arith}
use borrow.Author.Tests.{eqb-true}
use lib.Dec.{leb}
use lib.ListN.{length, take, drop, length-take}
use Rattle.table.specs.declared.counts.Counts.{Counts}
use Rattle.table.specs.declared.record.Step.{Step}
use Rattle.table.specs.declared.refusal.Refusal.TheVariants.{Length}
use Rattle.std.specs.Prelude.{Ok}
use Rattle.table.specs.Verdict.{require}
use Rattle.table.specs.Table.{
  Table,
  table_of,
  counts_of,
  packed_length,
  header_width,
  record_width,
  state_width,
  step_width,
  node_width,
  states_part,
  steps_part,
  nodes_part,
  state_of,
  step_of,
  node_of,
  zero_state,
  state_at,
  step_at,
  node_at,
  is_initial,
}
use Rattle.table.specs.Accept.{
  all,
  any,
  distinct,
  counts_fit,
  state_fits,
  step_fits,
  nodes_fit,
  records_verdict,
  table_verdict,
}
use Rattle.table.specs.Facts.{Wellformed, NoStepTwice, NodesFit}
use Rattle.table.specs.Refused.{CountsFit, StatesFit, SomeInitial, EndsAreStates}
use Rattle.table.proofs.Records.{records-length, records_at, record_anywhere}
use Rattle.table.proofs.Decided.{
  counts_decided,
  step_decided,
  states_decided,
  initial_decided,
  ends_decided,
  distinct_decided,
  nodes_decided,
}
use Rattle.table.proofs.Verdicts.{then_accepted, require_accepted}
use Rattle.table.proofs.AcceptedFacts.{AcceptedFacts}

-- the record that a section has at a number below the count is the table's record of that number
pub state_read_lem : (bytes : List ℕ) (s : ℕ) → s < (counts_of bytes).states
    → state_of (drop (state_width * s) (states_part bytes)) ≡ state_at (table_of bytes) s
state_read_lem bytes s h =
    sym (records_at state_of state_width (counts_of bytes).states (states_part bytes) s zero_state h)

-- the same at any number: past the last record all reads as zeros
no_longer : (size : ℕ) (bytes : List ℕ) → length (take size bytes) ≤ size
no_longer size bytes = omega (arith, length-take size bytes, min-le_left size (length bytes))

pub state_anywhere : (bytes : List ℕ) (s : ℕ)
    → state_of (drop (record_width * s) (states_part bytes)) ≡ state_at (table_of bytes) s
state_anywhere bytes s =
    record_anywhere state_of (counts_of bytes).states (states_part bytes) s
    (no_longer (state_width * (counts_of bytes).states) _)

pub step_anywhere : (bytes : List ℕ) (j : ℕ)
    → step_of (drop (record_width * j) (steps_part bytes)) ≡ step_at (table_of bytes) j
step_anywhere bytes j =
    record_anywhere step_of (counts_of bytes).steps (steps_part bytes) j
    (no_longer (step_width * (counts_of bytes).steps) _)

pub node_anywhere : (bytes : List ℕ) (i : ℕ)
    → node_of (drop (record_width * i) (nodes_part bytes)) ≡ node_at (table_of bytes) i
node_anywhere bytes i =
    record_anywhere node_of (counts_of bytes).nodes (nodes_part bytes) i
    (no_longer (node_width * (counts_of bytes).nodes) _)

-- counts that were read are those of the records
module _ (bytes : List ℕ) (k : Counts) (e : k ≡ counts_of bytes) where
  pub states_are : k.states ≡ length (table_of bytes).states
  states_are =
      ap (λ (c : Counts). c.states) e
      ∙ sym (records-length state_of state_width (counts_of bytes).states (states_part bytes))

  pub steps_are : k.steps ≡ length (table_of bytes).steps
  steps_are =
      ap (λ (c : Counts). c.steps) e
      ∙ sym (records-length step_of step_width (counts_of bytes).steps (steps_part bytes))

  pub nodes_are : k.nodes ≡ length (table_of bytes).nodes
  nodes_are =
      ap (λ (c : Counts). c.nodes) e
      ∙ sym (records-length node_of node_width (counts_of bytes).nodes (nodes_part bytes))

-- counts that fit are within their bounds
pub counts_within : (c : Counts) → counts_fit c ≡ true → CountsFit c
counts_within c = (counts_decided c).0

-- what a step that fits has
pub step_within : (n : ℕ) (x : Step) → step_fits n x ≡ true → (x.from < n) × (x.to < n)
step_within n x = (step_decided n x).0

-- the counts of accepted bytes fit, their length is the one that the counts say, and their records are accepted
pub header_accepted : (bytes : List ℕ) → table_verdict bytes ≡ Ok tt
    → (counts_fit (counts_of bytes) ≡ true) × (length bytes ≡ packed_length (counts_of bytes))
    × (records_verdict (table_of bytes) ≡ Ok tt)
unfolding table_verdict
header_accepted bytes e =
    let a = then_accepted (require Length (leb header_width (length bytes))) _ e in
    let b = then_accepted _ _ a.1 in
    let c = then_accepted _ _ b.1 in
    (require_accepted _ _ b.0, eqb-true _ _ (require_accepted _ _ c.0), c.1)

-- of accepted records every test holds
pub records_accepted : (T : Table) → records_verdict T ≡ Ok tt
    → (all (state_fits T.props) T.states ≡ true)
    × (any is_initial T.states ≡ true)
    × (all (step_fits (length T.states)) T.steps ≡ true)
    × (distinct T.steps ≡ true)
    × (nodes_fit T.props 0 T.nodes ≡ true)
records_accepted T e =
    let a = then_accepted _ _ e in
    let s = then_accepted _ _ a.0 in
    let b = then_accepted _ _ a.1 in
    let j = then_accepted _ _ b.0 in (
      require_accepted _ _ s.0,
      require_accepted _ _ s.1,
      require_accepted _ _ j.0,
      require_accepted _ _ j.1,
      require_accepted _ _ b.1,
    )

-- a table of counts within the bounds
abbrev pub CountsOfTable : Table → Type 0
CountsOfTable T =
    CountsFit (record { states = length T.states; steps = length T.steps; nodes = length T.nodes; props = T.props })

-- records that pass each test have the facts of a table
pub wellformed_by : (T : Table) → CountsOfTable T → StatesFit T → SomeInitial T → EndsAreStates T → NoStepTwice T
    → NodesFit T → Wellformed T
wellformed_by T w states initial ends once nodes = record {
  some_state = w.some_state;
  few_states = w.few_states;
  few_steps = w.few_steps;
  some_node = w.some_node;
  few_nodes = w.few_nodes;
  few_props = w.few_props;
  initial_bit = λ s h. (states s h).0;
  label_below = λ s h. (states s h).1;
  some_initial = initial;
  from_state = λ j h. (ends j h).0;
  to_state = λ j h. (ends j h).1;
  no_repeat = once;
  each_node_fits = nodes;
}

-- records within the bounds that are accepted have the facts of a table
pub wellformed : (T : Table) → CountsOfTable T → records_verdict T ≡ Ok tt → Wellformed T
wellformed T w e =
    let t = records_accepted T e in
    wellformed_by T w ((states_decided T).0 t.0) ((initial_decided T).0 t.1) ((ends_decided T).0 t.2)
    ((distinct_decided T).0 t.3) ((nodes_decided T).0 t.4)

-- accepted bytes have the facts of a packed table
pub accepted : (bytes : List ℕ) → table_verdict bytes ≡ Ok tt → AcceptedFacts bytes
accepted bytes v =
    let t = header_accepted bytes v in
    let w = counts_within (counts_of bytes) t.0 in
    let n = sym (states_are bytes _ refl) in
    let e = sym (steps_are bytes _ refl) in
    let f = sym (nodes_are bytes _ refl) in
    record {
      states_count = n;
      steps_count = e;
      nodes_count = f;
      short = omega arith;
      table = wellformed (table_of bytes) (omega arith) t.2;
    }

-- both ends of a step of an accepted table are among the 32 states
pub step_ends : (bytes : List ℕ) → table_verdict bytes ≡ Ok tt → (j : ℕ) → j < length (table_of bytes).steps
    → (x : Step) → x ≡ step_at (table_of bytes) j
    → (x.from < 32) × (x.to < 32)
step_ends bytes ok j h x e =
    let t = (accepted bytes ok).table in (
      rw e (omega (arith, t.from_state j h, t.few_states)),
      rw e (omega (arith, t.to_state j h, t.few_states)),
    )

-- a step read from the section of an accepted table: it is the table's, and its ends are below 32
pub record ReadStep (table : List ℕ) (j : ℕ) (x : Step) : Type 0 where
  pub here : x ≡ step_at (table_of table) j
  pub from_below : x.from < 32
  pub to_below : x.to < 32
