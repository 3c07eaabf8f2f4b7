-- `pair_step` meets its contract: one input, or two.
use borrow.Author.Tests.{eq-eqb, ne_eqb}
use Rattle.propagate.proofs.gates.pair_step.Goals as goal

pub returns-then-a-b-clause-value : goal.returns-then-a-b-clause-value
returns-then-a-b-clause-value c = let a = c.args in λ w. simp (eq-eqb a.a a.b c.if-a-b.true)
    (c.one_input_step.ensures.value w)

pub returns-clause-value : goal.returns-clause-value
returns-clause-value c = let a = c.args in λ w. simp (ne_eqb a.a a.b c.if-a-b.false) (c.both_step.ensures.value w)
