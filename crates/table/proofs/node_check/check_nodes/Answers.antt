-- `check_nodes` meets its contract. The loop's invariant: the whole section fits exactly when the records from i on do.
use mathlib.Core.Bool.{Bool, true, false, ◌&&◌}
use Rattle.table.specs.declared.record.Node.{Node}
use Rattle.table.specs.declared.shape.Shape.{Shape}
use Rattle.table.specs.declared.refusal.Refusal.TheVariants.{NodeRecord}
use Rattle.table.specs.Verdict.{require}
use Rattle.table.specs.Shape.{shape_of}
use Rattle.table.specs.Accept.{fields_fit, nodes_fit, node_fits}
use Prim.Native.Nat.{ℕ, ◌+◌, zero-le}
use mathlib.Core.Path.{◌≡◌, refl, sym, ap, ◌∙◌}
use native.Mathlib.Omega.{arith}
use lib.ListN.{drop}
use Rattle.table.specs.Table.{records, node_of, node_width}
use Rattle.table.proofs.Records.{records_done}
use Rattle.table.proofs.Scan.{record_nodes}
use Rattle.table.proofs.node_check.check_nodes.Goals as goal

-- the answer of the test on the fields is that of the test on the node
tested : (p i : ℕ) (x : Node) (s : Shape) → s ≡ shape_of x.kind → (b : Bool) → b ≡ fields_fit s p i x.a x.b
    → b ≡ node_fits p i x
tested p i x s e b f = f ∙ ap (λ (t : Shape). fields_fit t p i x.a x.b) e

pub loop-i-init : goal.loop-i-init
loop-i-init c = (zero-le, refl)

pub returns-then-not-fields_fit : goal.returns-then-not-fields_fit
returns-then-not-fields_fit c =
    let a = c.args in
    let i = c.loop-i.i in
    let x = c.record_at-x.result in
    let fails : node_fits a.p i x ≡ false =
    sym (tested a.p i x c.shape_of.result c.shape_of.ensures c.fields_fit.result c.fields_fit.ensures)
    ∙ c.if-not-fields_fit.true in
    let whole = c.loop-i.invariant.1
    ∙ record_nodes a.p node_of node_width a.f a.section.now i c.loop-i-test.true x c.record_at-x.ensures
    ∙ ap (λ (b : Bool). b && nodes_fit a.p (i + 1) (drop (i + 1) (records node_of node_width a.f a.section.now)))
    fails in
    ap (require NodeRecord) (sym whole)

pub loop-i-preserved : goal.loop-i-preserved
loop-i-preserved c =
    let a = c.args in
    let i = c.loop-i.i in
    let x = c.record_at-x.result in
    let fits : node_fits a.p i x ≡ true =
    sym (tested a.p i x c.shape_of.result c.shape_of.ensures c.fields_fit.result c.fields_fit.ensures)
    ∙ c.if-not-fields_fit.false in (
      omega arith,
      c.loop-i.invariant.1
          ∙ record_nodes a.p node_of node_width a.f a.section.now i c.loop-i-test.true x c.record_at-x.ensures
          ∙ ap (λ (b : Bool). b && nodes_fit a.p (i + 1) (drop (i + 1) (records node_of node_width a.f a.section.now)))
          fits,
    )

pub returns : goal.returns
unfolding nodes_fit
returns c =
    let a = c.args in
    let i = c.loop-i.i in
    ap (require NodeRecord) (sym (c.loop-i.invariant.1
    ∙ ap (nodes_fit a.p i) (records_done node_of node_width a.f a.section.now i c.loop-i-test.false)))
