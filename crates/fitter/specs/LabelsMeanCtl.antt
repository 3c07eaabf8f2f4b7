-- Labels agree with CTL over infinite paths: a state is marked for a node of the rule exactly when it is kept and the
-- node holds there, for every table and total list of kept steps. Specification, "Promises".
--
-- The marks are the bits of Label's words, as the contract of `label_nodes` has them. What holds where, over infinite
-- paths, is crate ctl's (NodeHolds).
use Rattle.std.specs.Prelude.{ℕ, ◌≤◌, ◌<◌, ◌≡◌, true, false, ◌↔◌, List, length, get_or, Ok}
use Rattle.sets.specs.Member.{member}
use Rattle.table.specs.Table.{table_of}
use Rattle.ctl.specs.Kept.{Kept, NodeHolds}
use Rattle.label.specs.Calls.{label_verdict, label_buffer}
use Rattle.label.specs.TotalWithRoom.{TotalWithRoom}

-- of a table and a total list for it, and a buffer that has room for a word for each node
pub record LabelMeansCtl (table list buffer : List ℕ) : Type 0 where
  -- Label does not refuse them
  pub answered : label_verdict table list (length buffer) ≡ Ok tt
  -- state s is marked for node i exactly where it is kept and the node holds
  pub exact : (i : ℕ) → i < length (table_of table).nodes → (s : ℕ)
      → (member (get_or (label_buffer table list buffer) i 0) s ≡ true)
      ↔ (Kept (table_of table) list s × NodeHolds (table_of table) list i s)
  -- and no bit behind the last state's is set
  pub high : (i : ℕ) → i < length (table_of table).nodes → (s : ℕ) → length (table_of table).states ≤ s
      → member (get_or (label_buffer table list buffer) i 0) s ≡ false

abbrev pub LabelsMeanCtl : Type 0
LabelsMeanCtl =
    (table list buffer : List ℕ) → TotalWithRoom table list (length (table_of table).nodes) (length buffer)
    → LabelMeansCtl table list buffer
