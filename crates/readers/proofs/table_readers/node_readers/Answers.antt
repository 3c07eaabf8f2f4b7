-- `node_readers` meets its contract: the nodes before i are where they are read.
use Prim.Native.Nat.{ℕ, ◌+◌, ◌<◌}
use mathlib.Core.Path.{◌≡◌, sym, ap, subst, ◌∙◌}
use mathlib.Core.Bool.{true}
use native.Mathlib.Omega.{arith}
use borrow.Author.Count.{below_more}
use lib.ListN.{length}
use mathlib.Core.List.{List}
use Rattle.std.specs.Prelude.{Ok}
use Rattle.table.specs.Table.{table_of, node_at}
use Rattle.table.specs.Accept.{table_verdict}
use Rattle.table.proofs.Facts.{accepted}
use Rattle.ctl.specs.Rule.{Operator, operator_of}
use Rattle.ctl.proofs.BottomUp.{Below, children_below}
use Rattle.readers.specs.Reads.{is_child}
use Rattle.readers.proofs.MarkLaws.{raised_then}
use Rattle.readers.proofs.NodeReads.{child_below}
use Rattle.readers.proofs.table_readers.node_readers.Invariants.{Child, Steps}
use Rattle.readers.proofs.table_readers.node_readers.Goals as goal

module _ (table : List ℕ) (ok : table_verdict table ≡ Ok tt) (i : ℕ) (h : i < length (table_of table).nodes) where
  few : i < 32
  few = omega (arith, h, (accepted table ok).table.few_nodes)

  low : (o : Operator) → o ≡ operator_of (node_at (table_of table) i) → (c : ℕ) → is_child o c ≡ true → c < 32
  low o is c e = omega (
    arith,
    few,
    child_below i o (subst (Below i) (sym is) (children_below (table_of table) (accepted table ok).table i h)) c e,
  )

pub child_reader-requires : goal.child_reader-requires
child_reader-requires c =
    let t = c.args.table.now in
    let i = c.loop-i.i in
    let inside : i < length (table_of t.bytes.now).nodes =
    omega (arith, c.node_count-i-end.ensures, c.loop-i-test.true) in
    record {
      i_below = few t.bytes.now t.passes i inside;
      children_below = low t.bytes.now t.passes i inside c.from-operator.result
          (c.from-operator.ensures ∙ ap operator_of c.node.ensures);
    }

pub step_reader-requires : goal.step_reader-requires
step_reader-requires c = few c.args.table.now.bytes.now c.args.table.now.passes c.loop-i.i
    (omega (arith, c.node_count-i-end.ensures, c.loop-i-test.true))

pub loop-i-preserved : goal.loop-i-preserved
loop-i-preserved c =
    let l = c.loop-i in
    let i = l.i in
    let child = c.child_reader.ensures in
    let step = c.step_reader.ensures in
    let is = c.from-operator.ensures ∙ ap operator_of c.node.ensures in (
      raised_then l.invariant.0 (raised_then child.raised step.raised),
      below_more _ i
          (λ k h j e. step.raised.stays (32 + j) k (child.raised.stays (32 + j) k (l.invariant.1 k h j e)))
          (subst (λ (o : Operator). Child c.step_reader.new.readers o i) is
          (λ j e. step.raised.stays (32 + j) i (child.of_node j e))),
      below_more _ i
          (λ k h e. step.raised.stays 64 k (child.raised.stays 64 k (l.invariant.2 k h e)))
          (subst (λ (o : Operator). Steps c.step_reader.new.readers o i) is step.of_steps),
    )
