-- `node_step` meets its contract, operator by operator.
use mathlib.Core.Path.{◌≡◌, refl, sym, ap, ◌∙◌}
use mathlib.Core.Bool.{Bool, true}
use borrow.Author.Tests.{eq-eqb}
use lib.Dec.{eqb}
use mathlib.Core.List.{List}
use Prim.Native.Nat.{ℕ, ◌<◌}
use Rattle.table.proofs.Bools.{or_left, or_right}
use Rattle.table.specs.StateSets.{labelled_word}
use Rattle.ctl.specs.Rule.{Operator, negation, conjunction, disjunction}
use Rattle.rows.specs.Rules.{constant_row}
use Rattle.propagate.specs.Memory.{node_place, memory, stepped}
use Rattle.propagate.specs.Gates.{next_step}
use Rattle.propagate.proofs.Chain.{added, quiet_is}
use Rattle.readers.specs.Reads.{is_child}
use Rattle.closure.specs.MemoryRules.{node_step}
use Rattle.closure.proofs.node.node_step.Goals as goal

-- a child is found by comparing its number with itself
self : (a : ℕ) → eqb a a ≡ true
self a = eq-eqb a a refl

module _ {o : Operator} (below : (c : ℕ) → is_child o c ≡ true → c < 32) (a b : ℕ) where
  in_negation : o ≡ negation a → a < 32
  in_negation is = below a (ap (λ (x : Operator). is_child x a) is ∙ self a)

  in_conjunction : o ≡ conjunction a b → (a < 32) × (b < 32)
  in_conjunction is = (
    below a (ap (λ (x : Operator). is_child x a) is ∙ or_left _ _ (self a)),
    below b (ap (λ (x : Operator). is_child x b) is ∙ or_right (eqb a b) _ (self b)),
  )

  in_disjunction : o ≡ disjunction a b → (a < 32) × (b < 32)
  in_disjunction is = (
    below a (ap (λ (x : Operator). is_child x a) is ∙ or_left _ _ (self a)),
    below b (ap (λ (x : Operator). is_child x b) is ∙ or_right (eqb a b) _ (self b)),
  )

pub one_input_step-requires-clause-places : goal.one_input_step-requires-clause-places
one_input_step-requires-clause-places c = (
  c.requires.i_below,
  in_negation c.requires.children_below c.in-Negation.a 0 c.in-Negation.is,
)

pub pair_step-requires-clause-places : goal.pair_step-requires-clause-places
pair_step-requires-clause-places c = (
  c.requires.i_below,
  in_conjunction c.requires.children_below c.in-Conjunction.a c.in-Conjunction.b c.in-Conjunction.is,
)

pub pair_step-requires-in-Disjunction-clause-places : goal.pair_step-requires-in-Disjunction-clause-places
pair_step-requires-in-Disjunction-clause-places c = (
  c.requires.i_below,
  in_disjunction c.requires.children_below c.in-Disjunction.a c.in-Disjunction.b
      c.in-Disjunction.is,
)

pub next_step-requires-clause-places : goal.next_step-requires-clause-places
next_step-requires-clause-places c = (
  c.requires.i_below,
  c.requires.children_below c.in-Next.a
      (ap (λ (x : Operator). is_child x c.in-Next.a) c.in-Next.is ∙ self c.in-Next.a),
)

pub returns-in-Constant-clause-value : goal.returns-in-Constant-clause-value
unfolding node_step
returns-in-Constant-clause-value c =
    let a = c.args in
    let n = a.graph.now.states in
    λ w. added a.rows.now (node_place a.i) (c.constant_row.ensures ∙ ap (constant_row n) c.constant_set-set.ensures)
    c.add_node.ensures.value c.add_node.ensures.rows_after w
    ∙ ap (λ (o : Operator). node_step a.table.now.bytes.now a.graph.now.targets n a.look a.i o (memory a.rows.now w))
    (sym c.in-Constant.is)

pub returns-in-Atom-clause-value : goal.returns-in-Atom-clause-value
unfolding node_step
returns-in-Atom-clause-value c =
    let a = c.args in
    let n = a.graph.now.states in
    let set = c.labelled_states-set.ensures
    ∙ ap (λ (l : List ℕ). labelled_word l n c.in-Atom.p) a.table.now.states_are in
    λ w. added a.rows.now (node_place a.i) (c.constant_row-in-Atom.ensures ∙ ap (constant_row n) set)
    c.add_node-in-Atom.ensures.value c.add_node-in-Atom.ensures.rows_after w
    ∙ ap (λ (o : Operator). node_step a.table.now.bytes.now a.graph.now.targets n a.look a.i o (memory a.rows.now w))
    (sym c.in-Atom.is)

pub returns-in-Negation-clause-value : goal.returns-in-Negation-clause-value
unfolding node_step
returns-in-Negation-clause-value c =
    let a = c.args in
    λ w. c.one_input_step.ensures.value w
    ∙ ap (λ (o : Operator). node_step a.table.now.bytes.now a.graph.now.targets a.graph.now.states a.look a.i o
    (memory a.rows.now w)) (sym c.in-Negation.is)

pub returns-in-Conjunction-clause-value : goal.returns-in-Conjunction-clause-value
unfolding node_step
returns-in-Conjunction-clause-value c =
    let a = c.args in
    λ w. c.pair_step.ensures.value w
    ∙ ap (λ (o : Operator). node_step a.table.now.bytes.now a.graph.now.targets a.graph.now.states a.look a.i o
    (memory a.rows.now w)) (sym c.in-Conjunction.is)

pub returns-in-Disjunction-clause-value : goal.returns-in-Disjunction-clause-value
unfolding node_step
returns-in-Disjunction-clause-value c =
    let a = c.args in
    λ w. c.pair_step-in-Disjunction.ensures.value w
    ∙ ap (λ (o : Operator). node_step a.table.now.bytes.now a.graph.now.targets a.graph.now.states a.look a.i o
    (memory a.rows.now w)) (sym c.in-Disjunction.is)

pub returns-in-Next-clause-value : goal.returns-in-Next-clause-value
unfolding node_step
returns-in-Next-clause-value c =
    let a = c.args in
    let T = a.graph.now.targets in
    let n = a.graph.now.states in
    λ w. c.next_step.ensures.value w
    ∙ ap (λ (every : Bool). next_step T n a.look a.i every c.in-Next.a (memory a.rows.now w)) c.is_every.ensures
    ∙ ap (λ (o : Operator). node_step a.table.now.bytes.now T n a.look a.i o (memory a.rows.now w)) (sym c.in-Next.is)

pub returns-in-Fixpoint-clause-value : goal.returns-in-Fixpoint-clause-value
unfolding node_step
returns-in-Fixpoint-clause-value c =
    let a = c.args in
    λ w. ap (stepped a.rows.now w) (quiet_is c.default.result c.default.ensures)
    ∙ ap (λ (o : Operator). node_step a.table.now.bytes.now a.graph.now.targets a.graph.now.states a.look a.i o
    (memory a.rows.now w)) (sym c.in-Fixpoint.is)
