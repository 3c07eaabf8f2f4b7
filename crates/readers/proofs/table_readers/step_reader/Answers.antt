-- `step_reader` meets its contract.
use mathlib.Core.Path.{ap, ◌∙◌}
use Prim.Native.Nat.{ℕ}
use Rattle.sets.specs.Member.{member}
use Rattle.readers.proofs.MarkLaws.{one_has}
use Rattle.readers.proofs.table_readers.step_reader.Goals as goal

pub returns-in-Next-clause-of_steps : goal.returns-in-Next-clause-of_steps
returns-in-Next-clause-of_steps c = λ e. c.put.ensures.added c.args.i
    (ap (λ (w : ℕ). member w c.args.i) c.insert.ensures ∙ one_has c.args.i c.requires)
