-- One table in its turn: what the repairer gives of it, where its part of the lists and the work buffers are long
-- enough.
use Prim.Native.Nat.{ℕ, ◌≤◌}
use mathlib.Core.Path.{◌≡◌, sym}
use mathlib.Core.List.{List}
use lib.ListN.{length}
use Rattle.std.specs.Prelude.{Ok}
use Rattle.table.specs.Table.{table_of}
use Rattle.table.specs.Accept.{table_verdict}
use Rattle.table.proofs.Refused.{is_table}
use Rattle.circuit.specs.Variables.{variable_formula}
use Rattle.search.specs.Answer.{answer_of}
use Rattle.search.specs.TableSearch.{search_under}
use Rattle.repair.specs.Effect.{written_after, cleared, repair_answer, repair_list, repair_bytes, repair_words}
use Rattle.repair.specs.Right.{LongEnough}
use Rattle.repair.proofs.Order.{left}
use Rattle.repair.proofs.Refusals.{fits}
use Rattle.batch.specs.Batch.{steps_in}

module _ (t : List ℕ) (cap : ℕ) (list bytes words : List ℕ) where
  pub record Turned : Type 0 where
    pub answer : repair_answer t cap list bytes words ≡ answer_of (search_under (table_of t) cap)
    pub list_after : repair_list t cap list bytes words
        ≡ written_after (table_of t) (search_under (table_of t) cap) list
    pub bytes_after : repair_bytes t cap list bytes words ≡ cleared (variable_formula (table_of t)) bytes
    pub words_after : repair_words t cap list bytes words ≡ cleared (variable_formula (table_of t)) words

  pub turned_by : LongEnough t list bytes words → Turned
  turned_by long =
      let all = left t cap list bytes words (Ok tt) (fits t list bytes words long) in
      record {
        answer = sym all.0;
        list_after = sym all.1.0;
        bytes_after = sym all.1.1.0;
        words_after = sym all.1.1.1;
      }

  pub long_by : table_verdict t ≡ Ok tt → steps_in t ≤ length list → variable_formula (table_of t) ≤ length bytes
      → variable_formula (table_of t) ≤ length words → LongEnough t list bytes words
  long_by ok l b w =
      record { accepted = (is_table t).0 ok; list_long = l; bytes_long = b; words_long = w }
