-- What every call answers and leaves.
use mathlib.Core.Path.{refl}
use mathlib.Core.Logic.Iff
use mathlib.Core.List.{List}
use Prim.Native.Nat.{ℕ}
use Rattle.ctl.specs.Tests.{judge_verdict}
use Rattle.judge.proofs.Exact.{verdict_exact, verdict_refuses}
use Rattle.search.specs.declared.answer.Answer.{Answer}
use Rattle.batch.specs.Effect.{batch_end, batch_lists, batch_bytes, batch_words, batch_answers}
use Rattle.batch.proofs.Right.{tests_told, refused_same, given_right}
use Rattle.fitter.specs.LentMemory.{JudgeAnswers, BatchLeaves, LentMemory}
use Rattle.fitter.proofs.AfterRepair.{repair_leaves}
use Rattle.fitter.proofs.AfterLists.{accepts, label_leaves, holding_leaves}
use Rattle.fitter.proofs.AfterRead.{read_leaves}
use Rattle.fitter.proofs.Numbers.{numbers_tell}

judge_answers : (table list : List ℕ) → JudgeAnswers table list (judge_verdict table list)
judge_answers table list =
    let v = judge_verdict table list in
    record {
      refused = verdict_refuses table list v refl;
      accepted = Iff.trans (accepts v) (verdict_exact table list v refl);
    }

batch_leaves : (bytes : List ℕ) (cap : ℕ) (lists work words : List ℕ) (answers : List Answer)
    → BatchLeaves bytes cap (batch_end bytes cap lists work words answers) lists work words answers
    (batch_lists bytes cap lists work words answers) (batch_bytes bytes cap lists work words answers)
    (batch_words bytes cap lists work words answers) (batch_answers bytes cap lists work words answers)
batch_leaves bytes cap lists work words answers =
    let told = tests_told bytes cap lists work words answers in
    record {
      refused = told.1;
      untouched = refused_same bytes cap lists work words answers;
      answered = told.0;
      written = given_right bytes cap lists work words answers;
    }

pub lent_memory_lem : LentMemory
lent_memory_lem = record {
  repair = repair_leaves;
  judge = judge_answers;
  label = label_leaves;
  holding = holding_leaves;
  read = read_leaves;
  batch = batch_leaves;
  numbers = numbers_tell;
}
