-- `word_places` meets its contract. The loop's invariant: the places up to i are stored, and `total` is that of node i.
use Prim.Native.Nat.{ℕ, suc, ◌+◌, ◌*◌, ◌≤◌, ◌<◌}
use native.Mathlib.Numerals.{add-one}
use mathlib.Core.Path.{◌≡◌, refl, sym, ap, subst, ◌∙◌}
use native.Mathlib.Omega.{arith}
use borrow.Author.Count.{below_more}
use lib.ListN.{length, get_or, set, length-set}
use lib.Seq.{get_or-set_same, get_or-set_other}
use Rattle.table.specs.declared.record.Node.{Node}
use Rattle.table.specs.Table.{Table, table_of, node_at}
use Rattle.table.proofs.Facts.{accepted}
use Rattle.ctl.specs.Rule.{Operator, operator_of}
use Rattle.readers.specs.Readers.{row_count, row_counts, first_word}
use Rattle.readers.proofs.Places.{first_next, first_last, count_most}
use Rattle.readers.proofs.word_places.word_places.Goals.{then-i-f, else-i-f}
use Rattle.readers.proofs.word_places.word_places.Goals as goal

-- what `row_count` gives for the node that is read is the count of node i
count : (T : Table) (i rows n : ℕ) (x : Node) (o : Operator) → rows ≡ row_count n o → n ≡ length T.states
    → o ≡ operator_of x → x ≡ node_at T i
    → rows ≡ row_count (length T.states) (operator_of (node_at T i))
count T i rows n x o given states read here = given ∙ (λ j. row_count (states j) ((read ∙ ap operator_of here) j))

-- the total of the next node: where there is a node i, and past the last
record Next (T : Table) (i total : ℕ) : Type 0 where
  place : total ≡ first_word T (suc i)
  small : total ≤ 1 + 32 * suc i

one_more : (T : Table) (i total rows : ℕ) → length T.states ≤ 32 → i < length T.nodes
    → rows ≡ row_count (length T.states) (operator_of (node_at T i))
    → total ≡ first_word T i → total ≤ 1 + 32 * i → Next T i (total + rows)
one_more T i total rows few h own base small = record {
  place = omega (arith, own, base, first_next T i h);
  small = omega (arith, own, count_most (length T.states) few (operator_of (node_at T i)));
}

no_more : (T : Table) (i total : ℕ) → length T.nodes ≤ i → total ≡ first_word T i → total ≤ 1 + 32 * i → Next T i total
no_more T i total h base small = record {
  place = omega (arith, base, first_last T i h, first_last T (suc i) (omega (arith, h)));
  small = omega arith;
}

pub loop-i-init : goal.loop-i-init
unfolding row_counts
loop-i-init c = record {
  few = omega arith;
  size = refl;
  total = refl;
  at = λ k h. let e : k ≡ 0 = omega (arith, h) in rw e refl;
}

pub row_count-total-requires : goal.row_count-total-requires
row_count-total-requires c =
    let t = c.args.table.now in
    omega (arith, c.state_count-n.ensures, (accepted t.bytes.now t.passes).table.few_states)

pub overflow_add-total : goal.overflow_add-total
overflow_add-total c =
    let t = c.args.table.now in
    let l = c.loop-i in
    let T = table_of t.bytes.now in
    let own = count T l.i c.row_count-total.result _ _ _ c.row_count-total.ensures c.state_count-n.ensures
    c.from.ensures c.node.ensures in
    let next = one_more T l.i l.total c.row_count-total.result (accepted t.bytes.now t.passes).table.few_states
    (omega (arith, c.if-i-f.true, c.node_count-f.ensures)) own l.invariant.total l.invariant.few in
    omega (arith, next.small, c.loop-i-test.true)

pub loop-i-preserved : goal.loop-i-preserved
loop-i-preserved c =
    let t = c.args.table.now in
    let T = table_of t.bytes.now in
    let l = c.loop-i in
    let i = l.i in
    let few = (accepted t.bytes.now t.passes).table.few_states in
    let total = c.if-i-f.total in
    let next : Next T i total = elim c.if-i-f.branch [
      | then-i-f w ↦
          let own = count T i w.row_count-total.result _ _ _ w.row_count-total.ensures c.state_count-n.ensures
          w.from.ensures w.node.ensures in
          subst (Next T i) (sym w.total-is)
          (one_more T i l.total w.row_count-total.result few (omega (arith, w.if-i-f.true, c.node_count-f.ensures)) own
          l.invariant.total l.invariant.few)
      | else-i-f w ↦
          subst (Next T i) (sym w.total-is)
          (no_more T i l.total (omega (arith, w.if-i-f.false, c.node_count-f.ensures)) l.invariant.total
          l.invariant.few)
    ] in
    let inside : i + 1 < length l.first = omega (arith, l.invariant.size, c.loop-i-test.true) in
    let first = set l.first (i + 1) total in
    let here : get_or first (i + 1) 0 ≡ first_word T (i + 1) =
    get_or-set_same l.first (i + 1) total 0 inside ∙ rw (add-one i) next.place in
    let before : (k : ℕ) → k < i + 1 → get_or first k 0 ≡ first_word T k =
    λ k h. get_or-set_other l.first (i + 1) k total 0 (λ e. omega arith) ∙ l.invariant.at k (omega (arith, h)) in
    record {
      few = omega (arith, next.small);
      size = length-set l.first (i + 1) total ∙ l.invariant.size;
      total = rw (add-one i) next.place;
      at = λ k h. below_more _ (i + 1) before here k (omega (arith, h));
    }
