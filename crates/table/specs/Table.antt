-- The packed table: what its bytes stand for (Specification, "Step tables"). Past the end of the bytes everything
-- reads as 0.
use Rattle.std.specs.Prelude.{ℕ, zero, suc, ◌+◌, ◌*◌, Bool, List, [], ◌∷◌, get_or, take, drop, eqb}
use Rattle.table.specs.declared.counts.Counts.{Counts}
use Rattle.table.specs.declared.record.State.{State}
use Rattle.table.specs.declared.record.Step.{Step}
use Rattle.table.specs.declared.record.Node.{Node}

-- bytes of the header, and of a record of any section
abbrev pub header_width : ℕ
header_width = 4

abbrev pub record_width : ℕ
record_width = 3

abbrev pub state_width : ℕ
state_width = record_width

abbrev pub step_width : ℕ
step_width = record_width

abbrev pub node_width : ℕ
node_width = record_width

-- the first three bytes
abbrev pub three : List ℕ → List ℕ
three bytes = get_or bytes 0 0 ∷ get_or bytes 1 0 ∷ get_or bytes 2 0 ∷ []

-- four bytes n, e, f, p
abbrev pub counts_of : List ℕ → Counts
counts_of bytes =
    record { states = get_or bytes 0 0; steps = get_or bytes 1 0; nodes = get_or bytes 2 0; props = get_or bytes 3 0 }

-- the length of a table of these counts
abbrev pub packed_length : Counts → ℕ
packed_length c = header_width + state_width * c.states + step_width * c.steps + node_width * c.nodes

-- a state: initial, and a 16-bit label, low byte first
abbrev pub state_of : List ℕ → State
state_of bytes = record { initial = get_or bytes 0 0; label = get_or bytes 1 0 + 256 * get_or bytes 2 0 }

-- a step: from, to, and the price of striking it
abbrev pub step_of : List ℕ → Step
step_of bytes = record { from = get_or bytes 0 0; to = get_or bytes 1 0; price = get_or bytes 2 0 }

-- a node: kind, a, b
abbrev pub node_of : List ℕ → Node
node_of bytes = record { kind = get_or bytes 0 0; a = get_or bytes 1 0; b = get_or bytes 2 0 }

-- so many records of one width, one behind the other
unfoldable pub records : {A : Type 0} → (List ℕ → A) → ℕ → ℕ → List ℕ → List A
records read width zero bytes = []
records read width (suc count) bytes = read bytes ∷ records read width count (drop width bytes)

-- the sections: states, then steps, then nodes
abbrev pub states_part : List ℕ → List ℕ
states_part bytes = take (state_width * (counts_of bytes).states) (drop header_width bytes)

abbrev pub steps_part : List ℕ → List ℕ
steps_part bytes =
    take (step_width * (counts_of bytes).steps) (drop (header_width + state_width * (counts_of bytes).states) bytes)

abbrev pub nodes_part : List ℕ → List ℕ
nodes_part bytes =
    take (node_width * (counts_of bytes).nodes)
    (drop (header_width + state_width * (counts_of bytes).states + step_width * (counts_of bytes).steps) bytes)

-- A table. The numbers n of states, e of steps and f of nodes are the lengths of the three lists, p is `props`, and
-- the last node is the root.
pub record Table : Type 0 where
  pub states : List State
  pub steps : List Step
  pub nodes : List Node
  pub props : ℕ

-- the records of each section
abbrev pub states_of : List ℕ → List State
states_of bytes = records state_of state_width (counts_of bytes).states (states_part bytes)

abbrev pub steps_of : List ℕ → List Step
steps_of bytes = records step_of step_width (counts_of bytes).steps (steps_part bytes)

abbrev pub nodes_of : List ℕ → List Node
nodes_of bytes = records node_of node_width (counts_of bytes).nodes (nodes_part bytes)

abbrev pub table_of : List ℕ → Table
table_of bytes =
    record { states = states_of bytes; steps = steps_of bytes; nodes = nodes_of bytes; props = (counts_of bytes).props }

-- the record past the end of its section: all zeros
abbrev pub zero_state : State
zero_state = record { initial = 0; label = 0 }

abbrev pub zero_step : Step
zero_step = record { from = 0; to = 0; price = 0 }

abbrev pub zero_node : Node
zero_node = record { kind = 0; a = 0; b = 0 }

-- the record at a number
abbrev pub state_at : Table → ℕ → State
state_at T s = get_or T.states s zero_state

abbrev pub step_at : Table → ℕ → Step
step_at T j = get_or T.steps j zero_step

abbrev pub node_at : Table → ℕ → Node
node_at T i = get_or T.nodes i zero_node

-- whether a state is initial, and the same of the state with this number
abbrev pub is_initial : State → Bool
is_initial s = eqb s.initial 1

abbrev pub initial_at : Table → ℕ → Bool
initial_at T s = is_initial (state_at T s)
