-- What Label and Holding answer, and what every lent entry holds afterwards: Specification, "Calls".
use Rattle.std.specs.Prelude.{ℕ, List, ◌++◌, leb, length, drop, Result, Ok, Err}
use Rattle.table.specs.declared.refusal.Refusal.{Refusal}
use Rattle.table.specs.Verdict.{Verdict}
use Rattle.table.specs.Buffer.{on_accepted, over}
use Rattle.table.specs.Table.{Table, table_of, initial_at}
use Rattle.ctl.specs.Rule.{root_index}
use Rattle.ctl.specs.Labels.{marked}
use Rattle.label.specs.Analysis.{analysis_verdict, label_words}
use Rattle.label.specs.ReadingOrder.{reading_order, states_with}

-- Label: f entries, bit s of entry i set exactly when s is marked for node i
abbrev pub label_verdict : List ℕ → List ℕ → ℕ → Verdict
label_verdict table list room = analysis_verdict (leb (length (table_of table).nodes) room) table list

abbrev pub label_buffer : List ℕ → List ℕ → List ℕ → List ℕ
label_buffer table list buffer =
    on_accepted (label_verdict table list (length buffer))
    (over (length (table_of table).nodes) (label_words (table_of table) list) buffer) buffer

-- Holding: the states of the root's set, in reading order
abbrev pub held_states : Table → List ℕ → List ℕ
held_states T list = states_with (reading_order (initial_at T)) (marked T list (root_index T))

abbrev pub holding_verdict : List ℕ → List ℕ → ℕ → Verdict
holding_verdict table list room = analysis_verdict (leb (length (table_of table).states) room) table list

-- the number of states, or the refusal
abbrev pub holding_at : Verdict → ℕ → Result ℕ Refusal
holding_at (Ok tt) count = Ok count
holding_at (Err r) count = Err r

abbrev pub holding_answer : List ℕ → List ℕ → ℕ → Result ℕ Refusal
holding_answer table list room =
    holding_at (holding_verdict table list room) (length (held_states (table_of table) list))

abbrev pub holding_buffer : List ℕ → List ℕ → List ℕ → List ℕ
holding_buffer table list buffer =
    on_accepted (holding_verdict table list (length buffer))
    (held_states (table_of table) list ++ drop (length (held_states (table_of table) list)) buffer) buffer
