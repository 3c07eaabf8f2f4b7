-- `label_pass` meets its contract: a turn does the node at i, and behind the last node nothing is left.
use Prim.Native.Nat.{ℕ, ◌+◌, ◌<◌}
use mathlib.Core.Path.{◌≡◌, sym, ap, subst, ◌∙◌}
use mathlib.Core.List.{List}
use native.Mathlib.Numerals.{add-one}
use native.Mathlib.Omega.{arith}
use lib.ListN.{length, get_or, drop, drop_of_length-le, set}
use lib.Seq.{drop-cons}
use Rattle.std.specs.Prelude.{Ok}
use Rattle.table.specs.declared.record.Node.{Node}
use Rattle.table.specs.declared.operator.Operator.{Operator}
use Rattle.table.specs.Table.{table_of, states_part, node_at, zero_node}
use Rattle.table.specs.Accept.{table_verdict}
use Rattle.table.proofs.Facts.{accepted}
use Rattle.ctl.specs.Rule.{operator_of}
use Rattle.label.specs.Words.{ChildrenBelow, node_word, pass_words}
use Rattle.label.proofs.PassWords.{node_children}
use Rattle.label.proofs.pass.label_pass.Goals as goal

module _ (table : List ℕ) (ok : table_verdict table ≡ Ok tt) (i : ℕ) (h : i < length (table_of table).nodes) where
  in_words : i < 32
  in_words = omega (arith, (accepted table ok).table.few_nodes)

  children : (x : Node) → x ≡ node_at (table_of table) i → (o : Operator) → o ≡ operator_of x → ChildrenBelow 32 o
  children x e o f =
      subst (ChildrenBelow 32) (sym (f ∙ ap operator_of e))
      (node_children (table_of table) (accepted table ok).table i h)

-- one node of the pass
one : (rows : List ℕ) (kept n : ℕ) (states : List ℕ) (nodes : List Node) (i : ℕ) → i < length nodes
    → (words : List ℕ) (w : ℕ)
    → w ≡ node_word rows kept n states words (operator_of (get_or nodes i zero_node))
    → pass_words rows kept n states i (drop i nodes) words
    ≡ pass_words rows kept n states (i + 1) (drop (i + 1) nodes) (set words i w)
unfolding pass_words
one rows kept n states nodes i h words w e =
    ap (λ (xs : List Node). pass_words rows kept n states i xs words) (drop-cons nodes i zero_node h)
    ∙ (λ j. pass_words rows kept n states (sym (add-one i) j) (drop (sym (add-one i) j) nodes) (set words i (sym e j)))

pub node_states-requires : goal.node_states-requires
node_states-requires c =
    let t = c.args.table.now in
    children t.bytes.now t.passes c.loop-i.i
    (omega (arith, c.node_count-i-end.ensures)) c.node.result c.node.ensures c.from.result c.from.ensures

pub offset_bounds-next-i : goal.offset_bounds-next-i
offset_bounds-next-i c =
    let t = c.args.table.now in
    omega (arith, in_words t.bytes.now t.passes c.loop-i.i (omega (arith, c.node_count-i-end.ensures)))

pub bounds-next-i : goal.bounds-next-i
bounds-next-i c =
    let t = c.args.table.now in
    in_words t.bytes.now t.passes c.loop-i.i (omega (arith, c.node_count-i-end.ensures))

pub loop-i-preserved : goal.loop-i-preserved
loop-i-preserved c =
    let t = c.args.table.now in
    let k = c.args.k.now in
    let i = c.loop-i.i in
    let word = c.node_states.ensures
    ∙ (λ j. node_word k.rows k.kept k.states (t.states_are j) c.loop-i.next
    ((c.from.ensures ∙ ap operator_of c.node.ensures) j)) in
    c.loop-i.invariant
    ∙ one k.rows k.kept k.states (states_part t.bytes.now) (table_of t.bytes.now).nodes i
    (omega (arith, c.node_count-i-end.ensures)) c.loop-i.next c.node_states.result word

pub returns : goal.returns
unfolding pass_words
returns c =
    let t = c.args.table.now in
    let k = c.args.k.now in
    let past = drop_of_length-le (table_of t.bytes.now).nodes {i = c.loop-i.i}
    (omega (arith, c.node_count-i-end.ensures)) in
    sym (c.loop-i.invariant
    ∙ ap (λ (xs : List Node). pass_words k.rows k.kept k.states (states_part t.bytes.now) c.loop-i.i xs c.loop-i.next)
    past)
