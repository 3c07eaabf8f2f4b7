-- `store_answers` meets its contract: an answer more at the front in each round.
use Prim.Native.Nat.{◌<◌}
use native.Mathlib.Omega.{arith}
use mathlib.Core.Path.{◌≡◌, ◌∙◌}
use mathlib.Core.List.{map}
use lib.ListN.{get_or, set}
use Rattle.std.proofs.Common.{rules}
use Rattle.std.specs.Prelude.{slice_set}
use Rattle.table.proofs.Buffer.{over_next}
use Rattle.search.specs.declared.answer.Answer.{Answer}
use Rattle.search.specs.declared.answer.Answer.TheVariants.{Found}
use Rattle.fitter_c.specs.Answers.{for_c}
use Rattle.fitter_c.proofs.Front.{mapped_at, mapped_length}
use Rattle.fitter_c.proofs.table_answer.store_answers.Goals as goal

pub loop-k-preserved : goal.loop-k-preserved
loop-k-preserved c =
    let xs = c.args.answers.now in
    let k = c.loop-k.k in
    let below : k < c.args.count = search rules in
    let d : Answer = Found 0 0 0 in
    let one : c.from.result ≡ get_or (map for_c xs) k (for_c d) =
    search (rules, mapped_at for_c xs k d (omega (arith, below, c.requires.given))) in
    let next = over_next k (map for_c xs) c.args.out.now (for_c d)
    (omega (arith, below, c.requires.given, mapped_length for_c xs)) (omega (arith, below, c.requires.room)) in
    (λ i. slice_set (c.loop-k.invariant i) k (one i)) ∙ next
