-- `child_reader` meets its contract: one child, or two.
use Prim.Native.Nat.{ℕ, ◌+◌, ◌<◌}
use native.Mathlib.Omega.{arith}
use mathlib.Core.Path.{◌≡◌, refl, sym, ap, subst, ◌∙◌}
use mathlib.Core.Bool.{true, ◌||◌}
use mathlib.Core.Logic.{◌⊎◌, ⊎_elim}
use borrow.Author.Tests.{eqb-true, eq-eqb}
use lib.Dec.{eqb}
use lib.ListN.{get_or}
use Rattle.sets.specs.Member.{member, set_of}
use Rattle.table.specs.declared.operator.Family.{Family}
use Rattle.table.proofs.Bools.{or_parts, or_left, or_right}
use Rattle.ctl.specs.Rule.{Operator, Quantifier, negation, conjunction, disjunction, next, fixpoint}
use Rattle.readers.specs.Reads.{is_child}
use Rattle.readers.proofs.MarkLaws.{one_has}
use Rattle.readers.proofs.table_readers.child_reader.Goals as goal

-- ---- which children it has

one_child : (o : Operator) (a : ℕ) → (o ≡ negation a) ⊎ ((q : Quantifier) × (o ≡ next q a)) → (c : ℕ)
    → is_child o c ≡ eqb a c
one_child o a is c = ⊎_elim (λ e. ap (λ p. is_child p c) e) (λ e. ap (λ p. is_child p c) e.1) is

two_children : (o : Operator) (a b : ℕ)
    → (o ≡ conjunction a b) ⊎ ((o ≡ disjunction a b) ⊎ ((f : Family) × (q : Quantifier) × (o ≡ fixpoint f q a b)))
    → (c : ℕ) → is_child o c ≡ eqb a c || eqb b c
two_children o a b is c =
    ⊎_elim (λ e. ap (λ p. is_child p c) e) (⊎_elim (λ e. ap (λ p. is_child p c) e) (λ e. ap (λ p. is_child p c) e.2)) is

module _ (o : Operator) (low : (c : ℕ) → is_child o c ≡ true → c < 32) where
  low_one : (a : ℕ) → ((c : ℕ) → is_child o c ≡ eqb a c) → a < 32
  low_one a has = low a (has a ∙ eq-eqb a a refl)

  module _ (a b : ℕ) (has : (c : ℕ) → is_child o c ≡ eqb a c || eqb b c) where
    low_first : a < 32
    low_first = low a (has a ∙ or_left (eqb a a) (eqb b a) (eq-eqb a a refl))

    low_second : b < 32
    low_second = low b (has b ∙ or_right (eqb a b) (eqb b b) (eq-eqb b b refl))

-- i alone has i
itself : (i one : ℕ) → i < 32 → one ≡ set_of 32 (λ t. member 0 t || eqb t i) → member one i ≡ true
itself i one h e = ap (λ (w : ℕ). member w i) e ∙ one_has i h

pub overflow_add-a-in-Negation : goal.overflow_add-a-in-Negation
overflow_add-a-in-Negation c = omega (arith, low_one _ c.requires.children_below _ (one_child _ _ c.in-Negation.is))

pub put-requires-in-Negation : goal.put-requires-in-Negation
put-requires-in-Negation c =
    omega (arith, c.told-readers, low_one _ c.requires.children_below _ (one_child _ _ c.in-Negation.is))

pub returns-in-Negation-clause-of_node : goal.returns-in-Negation-clause-of_node
returns-in-Negation-clause-of_node c = λ k e.
    let put = c.put-in-Negation in
    let a = c.in-Negation.a in
    let is : a ≡ k = eqb-true a k (sym (one_child _ a c.in-Negation.is k) ∙ e) in
    subst (λ (j : ℕ). member (get_or put.new.words (32 + j) 0) c.args.i ≡ true) is
    (put.ensures.added c.args.i (itself c.args.i c.insert-one.result c.requires.i_below c.insert-one.ensures))

pub overflow_add-a : goal.overflow_add-a
overflow_add-a c = omega (arith, low_first _ c.requires.children_below _ _ (two_children _ _ _ c.in-Conjunction.is))

pub put-requires : goal.put-requires
put-requires c =
    omega (arith, c.told-readers, low_first _ c.requires.children_below _ _ (two_children _ _ _ c.in-Conjunction.is))

pub overflow_add-b : goal.overflow_add-b
overflow_add-b c = omega (arith, low_second _ c.requires.children_below _ _ (two_children _ _ _ c.in-Conjunction.is))

pub put-requires-in-Conjunction : goal.put-requires-in-Conjunction
put-requires-in-Conjunction c = omega (
  arith,
  c.told-readers,
  c.put.ensures.raised.same_length,
  low_second _ c.requires.children_below _ _ (two_children _ _ _ c.in-Conjunction.is),
)

pub returns-in-Conjunction-clause-of_node : goal.returns-in-Conjunction-clause-of_node
returns-in-Conjunction-clause-of_node c = λ k e.
    let first = c.put.ensures in
    let second = c.put-in-Conjunction in
    let a = c.in-Conjunction.a in
    let b = c.in-Conjunction.b in
    let i = c.args.i in
    let own = itself i c.insert-one.result c.requires.i_below c.insert-one.ensures in
    ⊎_elim
    (λ q. subst (λ (j : ℕ). member (get_or second.new.words (32 + j) 0) i ≡ true) (eqb-true a k q)
    (second.ensures.raised.stays (32 + a) i (first.added i own)))
    (λ q. subst (λ (j : ℕ). member (get_or second.new.words (32 + j) 0) i ≡ true) (eqb-true b k q)
    (second.ensures.added i own))
    (or_parts (eqb a k) (eqb b k) (sym (two_children _ a b c.in-Conjunction.is k) ∙ e))
