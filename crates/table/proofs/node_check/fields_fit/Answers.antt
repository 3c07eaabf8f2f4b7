-- `fields_fit` meets its contract, shape by shape.
use borrow.Author.Tests.{lt-ltb, le-ltb, eq-eqb, ne_eqb}
use Rattle.table.proofs.node_check.fields_fit.Goals as goal

pub returns-then-a-eq0 : goal.returns-then-a-eq0
returns-then-a-eq0 c = simp (c.in-Constant.is, eq-eqb _ _ c.if-a-eq0.true)

pub returns-else-a-eq0 : goal.returns-else-a-eq0
returns-else-a-eq0 c = simp (c.in-Constant.is, ne_eqb _ _ c.if-a-eq0.false)

pub returns-then-a-p : goal.returns-then-a-p
returns-then-a-p c = simp (c.in-Proposition.is, lt-ltb _ _ c.if-a-p.true)

pub returns-else-a-p : goal.returns-else-a-p
returns-else-a-p c = simp (c.in-Proposition.is, le-ltb _ _ c.if-a-p.false)

pub returns-then-a-i : goal.returns-then-a-i
returns-then-a-i c = simp (c.in-Unary.is, lt-ltb _ _ c.if-a-i.true)

pub returns-else-a-i : goal.returns-else-a-i
returns-else-a-i c = simp (c.in-Unary.is, le-ltb _ _ c.if-a-i.false)

pub returns-then-a-i-2 : goal.returns-then-a-i-2
returns-then-a-i-2 c = simp (c.in-Binary.is, lt-ltb _ _ c.if-a-i-2.true)

pub returns-else-a-i-2 : goal.returns-else-a-i-2
returns-else-a-i-2 c = simp (c.in-Binary.is, le-ltb _ _ c.if-a-i-2.false)
