-- What Label, Holding and the judge share: the tests 2 to 11 of a table and a list, and the sets of its nodes.
use Rattle.std.specs.Prelude.{ℕ, Bool, true, cond, List, leb, length, Result, Ok, Err}
use Rattle.sets.specs.Member.{set_of}
use Rattle.table.specs.declared.refusal.Refusal.{Refusal}
use Rattle.table.specs.declared.refusal.Refusal.TheVariants.{ShortBuffer, NotTotal}
use Rattle.table.specs.Verdict.{Verdict, require, ◌then◌}
use Rattle.table.specs.Table.{Table, table_of, initial_at}
use Rattle.table.specs.Accept.{table_verdict, list_verdict}
use Rattle.table.specs.Rows.{target_sets}
use Rattle.ctl.specs.Rule.{root_index}
use Rattle.ctl.specs.Range.{tabulate}
use Rattle.ctl.specs.Labels.{kept_steps, is_kept, marked}
use Rattle.ctl.specs.Tests.{is_total}
use Rattle.label.specs.declared.analysis.Analysis.{Analysis}
use Rattle.label.specs.declared.room.Room.{Room}
use Rattle.label.specs.declared.room.Room.TheVariants.{Any, Nodes, States}

-- The tests of a table, of the list's form, of the lent buffer's room and of whether the list is total, in this order
unfoldable pub analysis_verdict : Bool → List ℕ → List ℕ → Verdict
analysis_verdict room table list =
    table_verdict table
    then list_verdict (length (table_of table).steps) list
    then require ShortBuffer room
    then require NotTotal (is_total (table_of table) list)

-- the set of each node as a word, bit s for state s: clear past the last node
abbrev pub label_words : Table → List ℕ → List ℕ
label_words T list = tabulate 32 (λ i. set_of 32 (marked T list i))

-- the kept next states of each state, the initial states, the kept states, the root's set and all nodes' sets
abbrev pub sets_of : Table → List ℕ → Analysis
sets_of T list = record {
  rows = target_sets (kept_steps T.steps list);
  initial = set_of 32 (initial_at T);
  kept = set_of 32 (is_kept T list);
  root = set_of 32 (marked T list (root_index T));
  words = label_words T list;
}

-- 11: only a list that is total has them
abbrev pub total_sets : Table → List ℕ → Result Analysis Refusal
total_sets T list = cond (is_total T list) (Ok (sets_of T list)) (Err NotTotal)

-- whether the lent buffer has an entry for each of what it must have one for
abbrev pub room_fits : Room → Table → Bool
room_fits Any T = true
room_fits (Nodes k) T = leb (length T.nodes) k
room_fits (States k) T = leb (length T.states) k

-- the sets where the verdict accepts, else the refusal
abbrev pub analysis_at : Verdict → Analysis → Result Analysis Refusal
analysis_at (Ok tt) sets = Ok sets
analysis_at (Err r) sets = Err r

abbrev pub analysis_of : Room → List ℕ → List ℕ → Result Analysis Refusal
analysis_of room table list =
    analysis_at (analysis_verdict (room_fits room (table_of table)) table list) (sets_of (table_of table) list)
