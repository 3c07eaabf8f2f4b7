-- Specification, "Promises". Repairer and judge agree, for every table, every cap, buffers that are long enough and
-- whatever bytes are handed to the judge as a list. They share the table and a list of kept steps, no more:
-- crates.txt shows it, since the judge's crates and the repairer's have only the table and its meaning (table, ctl,
-- sets) in common. Which states are reached each works out by its own code.
use Rattle.std.specs.Prelude.{ℕ, ◌≡◌, ◌↔◌, List, Ok}
use Rattle.table.specs.Table.{table_of}
use Rattle.ctl.specs.Kept.{NarrowRepair}
use Rattle.ctl.specs.Tests.{judge_verdict}
use Rattle.repair.specs.Effect.{repair_answer, repair_list}
use Rattle.repair.specs.Right.{LongEnough, RepairIsRight}

-- of one table, what is answered and left, and what the judge says of a list
pub record Together (table : List ℕ) (cap : ℕ) (list bytes words judged : List ℕ) : Type 0 where
  -- what is answered, counted and written is right, and the judge accepts what is found
  pub repairer : RepairIsRight table cap (repair_answer table cap list bytes words) list
      (repair_list table cap list bytes words)
  -- the judge accepts the narrow repairs, whoever made them, and nothing else
  pub judge : (judge_verdict table judged ≡ Ok tt) ↔ NarrowRepair (table_of table) judged

abbrev pub RepairerAndJudge : Type 0
RepairerAndJudge =
    (table : List ℕ) (cap : ℕ) (list bytes words judged : List ℕ) → LongEnough table list bytes words
    → Together table cap list bytes words judged
