-- `mark` marks the readers of the steps out of a state: the set of that state alone has it.
use Prim.Native.Nat.{ℕ}
use mathlib.Core.Path.{sym, subst, ap, ◌∙◌}
use Rattle.sets.specs.Member.{member}
use Rattle.readers.proofs.MarkLaws.{one_has}
use Rattle.propagate.specs.declared.adding.RowOf.{RowOf}
use Rattle.propagate.specs.Marked.{ReadersMarked, HasWord}
use Rattle.propagate.proofs.adding.mark.Goals as goal

pub returns-in-Steps-clause-marked : goal.returns-in-Steps-clause-marked
returns-in-Steps-clause-marked c =
    let a = c.args in
    let k = c.mark_steps in
    let s = c.in-Steps.s in
    let below = subst (HasWord a.looks.now) c.in-Steps.is c.requires.has_word in
    subst (λ (o : RowOf). ReadersMarked a.readers.now k.new.looks o a.set) (sym c.in-Steps.is)
    (k.ensures.steps_marked s (ap (λ (w : ℕ). member w s) c.insert.ensures ∙ one_has s below))
