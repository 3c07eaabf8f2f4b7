-- Each test of a table or a list holds exactly when its rule does.
use Prim.Native.Nat.{ℕ, ◌^◌, ◌≤◌, ◌<◌}
use mathlib.Core.Path.{◌≡◌, sym, subst, ◌∙◌}
use mathlib.Core.Logic.{◌↔◌}
use mathlib.Core.Bool.{Bool, true, false, ◌&&◌, false≢true}
use mathlib.Core.List.{List}
use native.Mathlib.Nat.{zero-add}
use borrow.Author.Tests.{leb-true, ltb-true, eqb-true, le-leb, lt-ltb, eq-eqb}
use lib.Dec.{leb, ltb, eqb}
use lib.ListN.{length, get_or}
use Rattle.table.specs.declared.counts.Counts.{Counts}
use Rattle.table.specs.declared.shape.Shape.{Shape}
use Rattle.table.specs.declared.shape.Shape.TheVariants.{Constant, Proposition, Unary, Binary, Unknown}
use Rattle.table.specs.declared.record.State.{State}
use Rattle.table.specs.declared.record.Step.{Step}
use Rattle.table.specs.declared.record.Node.{Node}
use Rattle.table.specs.Table.{Table, zero_state, zero_step, zero_node, step_at, is_initial}
use Rattle.table.specs.Shape.{shape_of}
use Rattle.table.specs.Accept.{
  all,
  any,
  distinct,
  counts_fit,
  state_fits,
  step_fits,
  same_step,
  fields_fit,
  node_fits,
  nodes_fit,
}
use Rattle.table.specs.Facts.{FieldsFit, NodeFits, NoStepTwice, NodesFit}
use Rattle.table.specs.Refused.{CountsFit, StatesFit, SomeInitial, EndsAreStates}
use Rattle.table.proofs.Bools.{and_parts, parts_and, not_so}
use Rattle.table.proofs.All.{all_at, at_all, any_at, at_any, distinct_at, at_distinct, nodes_fit_at, at_nodes_fit}

-- a test that fails: its rule does not hold
pub rule_fails : {P : Type 0} (b : Bool) → ((b ≡ true) ↔ P) → b ≡ false → ¬ P
rule_fails b decided e h = false≢true (sym e ∙ decided.1 h)

pub both : {P Q : Type 0} (a b : Bool) → ((a ≡ true) ↔ P) → ((b ≡ true) ↔ Q) → (a && b ≡ true) ↔ (P × Q)
both a b p q = (λ e. let t = and_parts a b e in (p.0 t.0, q.0 t.1), λ h. parts_and a b (p.1 h.0) (q.1 h.1))

pub at_most_decided : (m n : ℕ) → (leb m n ≡ true) ↔ (m ≤ n)
at_most_decided m n = (leb-true m n, le-leb m n)

below_decided : (m n : ℕ) → (ltb m n ≡ true) ↔ (m < n)
below_decided m n = (ltb-true m n, lt-ltb m n)

pub same_decided : (m n : ℕ) → (eqb m n ≡ true) ↔ (m ≡ n)
same_decided m n = (eqb-true m n, eq-eqb m n)

pub all_decided : {A : Type 0} (p : A → Bool) (P : A → Type 0) → ((x : A) → (p x ≡ true) ↔ P x) → (xs : List A) (d : A)
    → (all p xs ≡ true) ↔ ((i : ℕ) → i < length xs → P (get_or xs i d))
all_decided p P each xs d = (
  λ e i h. (each (get_or xs i d)).0 (all_at p xs d e i h),
  λ f. at_all p xs d
      (λ i h. (each (get_or xs i d)).1 (f i h)),
)

pub counts_decided : (c : Counts) → (counts_fit c ≡ true) ↔ CountsFit c
counts_decided c = (there, back)
  where
    there : counts_fit c ≡ true → CountsFit c
    there e =
        let p = and_parts _ _ e in
        let f = and_parts _ _ p.0 in
        let g = and_parts _ _ f.0 in
        let s = and_parts _ _ g.0 in
        let n = and_parts _ _ s.0 in
        record {
          some_state = leb-true _ _ n.0;
          few_states = leb-true _ _ n.1;
          few_steps = leb-true _ _ s.1;
          some_node = leb-true _ _ g.1;
          few_nodes = leb-true _ _ f.1;
          few_props = leb-true _ _ p.1;
        }

    back : CountsFit c → counts_fit c ≡ true
    back w =
        let n = parts_and _ _ (le-leb 1 c.states w.some_state) (le-leb c.states 32 w.few_states) in
        let s = parts_and _ _ n (le-leb c.steps 128 w.few_steps) in
        let g = parts_and _ _ s (le-leb 1 c.nodes w.some_node) in
        let f = parts_and _ _ g (le-leb c.nodes 32 w.few_nodes) in
        parts_and _ _ f (le-leb c.props 16 w.few_props)

pub state_decided : (p : ℕ) (x : State) → (state_fits p x ≡ true) ↔ ((x.initial ≤ 1) × (x.label < 2 ^ p))
state_decided p x =
    both (leb x.initial 1) (ltb x.label (2 ^ p)) (at_most_decided x.initial 1) (below_decided x.label (2 ^ p))

pub step_decided : (n : ℕ) (x : Step) → (step_fits n x ≡ true) ↔ ((x.from < n) × (x.to < n))
step_decided n x = both (ltb x.from n) (ltb x.to n) (below_decided x.from n) (below_decided x.to n)

pub repeat_decided : (x y : Step) → (same_step x y ≡ true) ↔ ((x.from ≡ y.from) × (x.to ≡ y.to))
repeat_decided x y = both (eqb x.from y.from) (eqb x.to y.to) (same_decided x.from y.from) (same_decided x.to y.to)

pub fields_decided : (s : Shape) (p i a b : ℕ) → (fields_fit s p i a b ≡ true) ↔ FieldsFit s p i a b
fields_decided Constant p i a b = both (eqb a 0) (eqb b 0) (same_decided a 0) (same_decided b 0)
fields_decided Proposition p i a b = both (ltb a p) (eqb b 0) (below_decided a p) (same_decided b 0)
fields_decided Unary p i a b = both (ltb a i) (eqb b 0) (below_decided a i) (same_decided b 0)
fields_decided Binary p i a b = both (ltb a i) (ltb b i) (below_decided a i) (below_decided b i)
fields_decided Unknown p i a b = (λ e. false≢true e, λ h. absurd h)

pub node_decided : (p i : ℕ) (x : Node) → (node_fits p i x ≡ true) ↔ NodeFits p i x
node_decided p i x = fields_decided (shape_of x.kind) p i x.a x.b

module _ (T : Table) where
  pub states_decided : (all (state_fits T.props) T.states ≡ true) ↔ StatesFit T
  states_decided = all_decided (state_fits T.props) (λ x. (x.initial ≤ 1) × (x.label < 2 ^ T.props))
      (state_decided T.props) T.states zero_state

  pub initial_decided : (any is_initial T.states ≡ true) ↔ SomeInitial T
  initial_decided = (
    λ e. let f = any_at is_initial T.states zero_state e in (f.0, f.1, eqb-true _ _ f.2),
    λ f. at_any is_initial T.states zero_state f.0 f.1 (eq-eqb _ _ f.2),
  )

  pub ends_decided : (all (step_fits (length T.states)) T.steps ≡ true) ↔ EndsAreStates T
  ends_decided =
      all_decided (step_fits (length T.states)) (λ x. (x.from < length T.states) × (x.to < length T.states))
      (step_decided (length T.states)) T.steps zero_step

  pub distinct_decided : (distinct T.steps ≡ true) ↔ NoStepTwice T
  distinct_decided = (
    λ e i j l h same. false≢true (sym (distinct_at T.steps zero_step e i j l h)
        ∙ (repeat_decided (step_at T i) (step_at T j)).1 same),
    λ f. at_distinct T.steps zero_step
        (λ i j l h. not_so _ (λ e. f i j l h ((repeat_decided (step_at T i) (step_at T j)).0 e))),
  )

  pub nodes_decided : (nodes_fit T.props 0 T.nodes ≡ true) ↔ NodesFit T
  nodes_decided = (
    λ e i h. subst (λ (k : ℕ). NodeFits T.props k (get_or T.nodes i zero_node)) (zero-add i)
        ((node_decided _ _ _).0 (nodes_fit_at T.props 0 T.nodes zero_node e i h)),
    λ f. at_nodes_fit T.props 0 T.nodes zero_node
        (λ i h. subst (λ (k : ℕ). node_fits T.props k (get_or T.nodes i zero_node) ≡ true) (sym (zero-add i))
        ((node_decided _ _ _).1 (f i h))),
  )
