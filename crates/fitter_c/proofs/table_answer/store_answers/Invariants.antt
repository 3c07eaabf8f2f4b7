-- The answers up to this one stand at the front.
use Rattle.std.proofs.Common.{◌≡◌, map}
use Rattle.table.specs.Buffer.{over}
use Rattle.fitter_c.specs.Answers.{for_c}
use Rattle.fitter_c.proofs.table_answer.store_answers.Given as goal

abbrev pub invariant-loop-k : goal.invariant-loop-k
invariant-loop-k l = l.out ≡ over l.k (map for_c l.fn.answers) l.initial.out
