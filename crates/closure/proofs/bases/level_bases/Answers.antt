-- `level_bases` meets its contract. The loop's invariant: the bases of the nodes before i are stored, and `total` is
-- that of node i.
use Prim.Native.Nat.{ℕ, ◌+◌, ◌*◌, ◌≤◌, ◌<◌}
use mathlib.Core.Path.{◌≡◌, refl, ap, ◌∙◌}
use native.Mathlib.Omega.{arith}
use borrow.Author.Count.{below_more}
use lib.ListN.{length, get_or, set, length-set}
use lib.Seq.{get_or-set_same, get_or-set_other}
use Rattle.table.specs.declared.record.Node.{Node}
use Rattle.table.specs.Table.{Table, table_of, node_at}
use Rattle.table.proofs.Facts.{accepted}
use Rattle.ctl.specs.Rule.{Operator, operator_of}
use Rattle.closure.specs.Knowledge.{level_size, level_sizes, level_base}
use Rattle.closure.proofs.LevelBases.{base_on, past, size_most}
use Rattle.closure.proofs.bases.level_bases.Goals as goal

-- what `level_size` gives for the node that is read is the size of node i
size : (T : Table) (i words n : ℕ) (x : Node) (o : Operator) → words ≡ level_size n o → n ≡ length T.states
    → o ≡ operator_of x → x ≡ node_at T i
    → words ≡ level_size (length T.states) (operator_of (node_at T i))
size T i words n x o given states read here = given ∙ (λ j. level_size (states j) ((read ∙ ap operator_of here) j))

-- with it the total is the base of the next node
more : (T : Table) (i total words : ℕ) → length T.states ≤ 32
    → words ≡ level_size (length T.states) (operator_of (node_at T i)) → total ≡ level_base T i → total ≤ 62 * i
    → (total + words ≡ level_base T (i + 1)) × (total + words ≤ 62 * (i + 1))
more T i total words few own base small = (
  omega (arith, own, base, base_on T i),
  omega (arith, own, size_most (length T.states) few (operator_of (node_at T i))),
)

pub loop-i-init : goal.loop-i-init
unfolding level_sizes
loop-i-init c = record { few = omega arith; size = refl; total = refl; at = λ k h. absurd (omega arith) }

pub level_size-total-requires : goal.level_size-total-requires
level_size-total-requires c =
    let t = c.args.table.now in
    let wf = (accepted t.bytes.now t.passes).table in
    (omega (arith, wf.some_state), omega (arith, wf.few_states))

pub overflow_add-total : goal.overflow_add-total
overflow_add-total c =
    let t = c.args.table.now in
    let T = table_of t.bytes.now in
    let l = c.loop-i in
    let own = size T l.i c.level_size-total.result _ _ _ c.level_size-total.ensures c.state_count-n.ensures
    c.from.ensures c.node.ensures in
    let next = more T l.i l.total c.level_size-total.result (accepted t.bytes.now t.passes).table.few_states own
    l.invariant.total l.invariant.few in
    omega (arith, next.1)

pub loop-i-preserved : goal.loop-i-preserved
loop-i-preserved c =
    let t = c.args.table.now in
    let T = table_of t.bytes.now in
    let l = c.loop-i in
    let i = l.i in
    let own = size T i c.level_size-total.result _ _ _ c.level_size-total.ensures c.state_count-n.ensures
    c.from.ensures c.node.ensures in
    let next = more T i l.total c.level_size-total.result (accepted t.bytes.now t.passes).table.few_states own
    l.invariant.total l.invariant.few in
    let at = set l.at i l.total in
    let inside : i < length l.at = omega (arith, l.invariant.size) in
    let here : get_or at i 0 ≡ level_base T i = get_or-set_same l.at i l.total 0 inside ∙ l.invariant.total in
    let before : (k : ℕ) → k < i → get_or at k 0 ≡ level_base T k =
    λ k h. get_or-set_other l.at i k l.total 0 (λ e. omega arith) ∙ l.invariant.at k h in
    record {
      few = next.1;
      size = length-set l.at i _ ∙ l.invariant.size;
      total = next.0;
      at = below_more _ i before here;
    }

pub returns : goal.returns
returns c =
    let t = c.args.table.now in
    let l = c.loop-i in
    let few = (accepted t.bytes.now t.passes).table.few_nodes in
    let done : l.i ≡ 32 = omega arith in
    record {
      size = l.invariant.size;
      at = λ k h. l.invariant.at k (omega arith);
      total = l.invariant.total ∙ past (table_of t.bytes.now) l.i (omega (arith, few));
    }
