-- Which bytes are a table, and what every accepted table has: the facts that the layers above rest on.
use Rattle.std.specs.Prelude.{ℕ, ◌^◌, ◌≤◌, ◌<◌, ◌≡◌, List, length}
use Rattle.table.specs.declared.shape.Shape.{Shape}
use Rattle.table.specs.declared.shape.Shape.TheVariants.{Constant, Proposition, Unary, Binary, Unknown}
use Rattle.table.specs.declared.record.Node.{Node}
use Rattle.table.specs.Table.{Table, table_of, counts_of, packed_length, header_width, state_at, step_at, node_at}
use Rattle.table.specs.Shape.{shape_of}

-- the fields of node i, of the shape of its kind: a child is a node with a lower number, a proposition is below p, an
-- unused field is 0
abbrev pub FieldsFit : Shape → ℕ → ℕ → ℕ → ℕ → Type 0
FieldsFit Constant p i a b = (a ≡ 0) × (b ≡ 0)
FieldsFit Proposition p i a b = (a < p) × (b ≡ 0)
FieldsFit Unary p i a b = (a < i) × (b ≡ 0)
FieldsFit Binary p i a b = (a < i) × (b < i)
FieldsFit Unknown p i a b = ⊥

abbrev pub NodeFits : ℕ → ℕ → Node → Type 0
NodeFits p i x = FieldsFit (shape_of x.kind) p i x.a x.b

-- no two steps have the same ends, whatever their prices
abbrev pub NoStepTwice : Table → Type 0
NoStepTwice T = (i j : ℕ) → i < j → j < length T.steps
    → ¬ (((step_at T i).from ≡ (step_at T j).from) × ((step_at T i).to ≡ (step_at T j).to))

abbrev pub NodesFit : Table → Type 0
NodesFit T = (i : ℕ) → i < length T.nodes → NodeFits T.props i (node_at T i)

pub record Wellformed (T : Table) : Type 0 where
  pub some_state : 1 ≤ length T.states
  pub few_states : length T.states ≤ 32
  pub few_steps : length T.steps ≤ 128
  pub some_node : 1 ≤ length T.nodes
  pub few_nodes : length T.nodes ≤ 32
  pub few_props : T.props ≤ 16
  pub initial_bit : (s : ℕ) → s < length T.states → (state_at T s).initial ≤ 1
  pub label_below : (s : ℕ) → s < length T.states → (state_at T s).label < 2 ^ T.props
  pub some_initial : (s : ℕ) × (s < length T.states) × ((state_at T s).initial ≡ 1)
  pub from_state : (j : ℕ) → j < length T.steps → (step_at T j).from < length T.states
  pub to_state : (j : ℕ) → j < length T.steps → (step_at T j).to < length T.states
  pub no_repeat : NoStepTwice T
  pub each_node_fits : NodesFit T

-- the bytes are a table: a header, as many bytes as its counts say, and records in order
pub record IsTable (bytes : List ℕ) : Type 0 where
  pub header : header_width ≤ length bytes
  pub whole : length bytes ≡ packed_length (counts_of bytes)
  pub wellformed : Wellformed (table_of bytes)
