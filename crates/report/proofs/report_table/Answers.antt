-- `report_table` meets its contract: Repair's answer and list, and what is printed of them.
use Prim.Native.Nat.{ℕ}
use mathlib.Core.Path.{◌≡◌}
use mathlib.Core.List.{List}
use Rattle.search.specs.declared.answer.Answer.{Answer}
use Rattle.render.proofs.Left.{room_as, stored_as}
use Rattle.repair.specs.Effect.{repair_answer, repair_list}
use Rattle.report.specs.Texts.{cap}
use Rattle.report.specs.Report.{answer_text, zeros, table_text}
use Rattle.report.proofs.report_table.Goals as goal

-- Repair's answer and list are those of the definition
same_text : (table : List ℕ) {answer : Answer} {list : List ℕ}
    → answer ≡ repair_answer table cap (zeros 128) (zeros 10000) (zeros 10000)
    → list ≡ repair_list table cap (zeros 128) (zeros 10000) (zeros 10000)
    → answer_text table answer list ≡ table_text cap table
unfolding table_text
same_text table e p i = answer_text table (e i) (p i)

pub write_result-requires : goal.write_result-requires
write_result-requires c =
    room_as _ _ _ _ (same_text c.args.table.now.bytes.now c.repair_accepted-answer.ensures.value
    c.repair_accepted-answer.ensures.list_after) c.requires

pub returns : goal.returns
returns c = stored_as _ _ _ _ _ _
    (same_text c.args.table.now.bytes.now c.repair_accepted-answer.ensures.value
    c.repair_accepted-answer.ensures.list_after) c.write_result.ensures
