-- The sheet of packed bytes is in range, since a byte is below 256.
use Prim.Native.Nat.{ℕ, zero, suc, ◌+◌, ◌*◌}
use mathlib.Core.List.{List}
use native.Mathlib.Omega.{arith}
use lib.ListN.{drop}
use Rattle.table.specs.Table.{
  records,
  counts_of,
  state_of,
  step_of,
  node_of,
  header_width,
  state_width,
  step_width,
  node_width,
  states_part,
  steps_part,
  nodes_part,
}
use Rattle.table.proofs.Records.{records-length}
use Rattle.table.proofs.Bytes.{Bytes, bytes_drop, bytes_part}
use Rattle.sheet.specs.Form.{StateInRange, StepInRange, NodeInRange, InRange, Every}
use Rattle.render.specs.Render.{sheet_of}

-- what holds of each record that bytes can make holds of all records
pub records_every : {A : Type 0} (P : A → Type 0) (read : List ℕ → A) (width : ℕ)
    → ((l : List ℕ) → Bytes l → P (read l)) → (count : ℕ) (l : List ℕ) → Bytes l → Every P (records read width count l)
unfolding records
records_every P read width each zero l h = tt
records_every P read width each
    (suc count) l h = (each l h, records_every P read width each count (drop width l) (bytes_drop width l h))

state_range : (l : List ℕ) → Bytes l → StateInRange (state_of l)
state_range l h = record { initial = omega (arith, h 0); label = omega (arith, h 1, h 2) }

step_range : (l : List ℕ) → Bytes l → StepInRange (step_of l)
step_range l h = record { from = omega (arith, h 0); to = omega (arith, h 1); price = omega (arith, h 2) }

node_range : (l : List ℕ) → Bytes l → NodeInRange (node_of l)
node_range l h = record { kind = omega (arith, h 0); a = omega (arith, h 1); b = omega (arith, h 2) }

-- the sheet of packed bytes is in range
pub sheet_range : (l : List ℕ) → Bytes l → InRange (sheet_of l)
sheet_range l h =
    record {
      counts = record {
        states = omega (arith, h 0);
        steps = omega (arith, h 1);
        nodes = omega (arith, h 2);
        props = omega (arith, h 3);
      };
      states_count = records-length state_of state_width (counts_of l).states (states_part l);
      steps_count = records-length step_of step_width (counts_of l).steps (steps_part l);
      nodes_count = records-length node_of node_width (counts_of l).nodes (nodes_part l);
      states = records_every StateInRange state_of state_width state_range (counts_of l).states (states_part l)
          (bytes_part (state_width * (counts_of l).states) header_width l h);
      steps = records_every StepInRange step_of step_width step_range (counts_of l).steps (steps_part l)
          (bytes_part (step_width * (counts_of l).steps) (header_width + state_width * (counts_of l).states) l h);
      nodes = records_every NodeInRange node_of node_width node_range (counts_of l).nodes (nodes_part l)
          (bytes_part (node_width * (counts_of l).nodes)
          (header_width + state_width * (counts_of l).states + step_width * (counts_of l).steps) l h);
    }
