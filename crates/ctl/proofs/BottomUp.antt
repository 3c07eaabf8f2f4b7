-- The laws of `bottom_up`: one value for each node, made of the values of its children, which stand before it.
use Prim.Native.Nat.{ℕ, zero, suc, ◌+◌, ◌<◌}
use native.Mathlib.Nat.{le_of_suc-le-suc, not-suc-le-zero}
use native.Mathlib.Omega.{arith}
use mathlib.Core.Path.{◌≡◌, sym, ap, ◌∙◌}
use mathlib.Core.List.{List, [], ◌∷◌, ◌++◌}
use lib.ListN.{length, get_or, take, length-append}
use lib.Seq.{take-length, take-take, take-append_seam, get_or-append_seam, get_or-take}
use Rattle.table.specs.declared.record.Node.{Node}
use Rattle.table.specs.Table.{Table, zero_node, node_at}
use Rattle.table.specs.Shape.{shape_of}
use Rattle.table.specs.Facts.{Wellformed, FieldsFit}
use Rattle.ctl.specs.Rule.{
  Operator,
  constant,
  atom,
  negation,
  conjunction,
  disjunction,
  next,
  fixpoint,
  operator_of,
  bottom_up,
}

-- ---- the values, one behind the other

module _ {A : Type 0} (value : Operator → (ℕ → A) → A) (none : A) where
  -- the values done, and then that of the node x
  abbrev more : List A → Node → List A
  more done x = done ++ (value (operator_of x) (λ k. get_or done k none) ∷ [])

  -- a value for each node, behind those that are done
  pub length_onto : (done : List A) (nodes : List Node)
      → length (bottom_up value none done nodes) ≡ length done + length nodes
  unfolding bottom_up
  length_onto done [] = omega arith
  length_onto done (x ∷ xs) = length_onto (more done x) xs ∙ rw length-append (omega arith)

  -- what is done stays
  pub take_done : (done : List A) (nodes : List Node) → take (length done) (bottom_up value none done nodes) ≡ done
  unfolding bottom_up
  take_done done [] = take-length done
  take_done done (x ∷ xs) =
      let out = bottom_up value none (more done x) xs in
      sym (take-take (length done) (length (more done x)) out (rw length-append (omega arith)))
      ∙ ap (take (length done)) (take_done (more done x) xs)
      ∙ take-append_seam done _

  -- the value behind those that are done
  value_here : (done : List A) (x : Node) (xs : List Node)
      → get_or (bottom_up value none done (x ∷ xs)) (length done) none ≡ value (operator_of x) (λ k. get_or done k none)
  unfolding bottom_up
  value_here done x xs =
      let out = bottom_up value none (more done x) xs in
      sym (get_or-take (length (more done x)) out (length done) none (rw length-append (omega arith)))
      ∙ ap (λ (l : List A). get_or l (length done) none) (take_done (more done x) xs)
      ∙ get_or-append_seam done _ [] none

  value_first : (done : List A) (x : Node) (xs : List Node) (i : ℕ) → i ≡ length done
      → get_or (bottom_up value none done (x ∷ xs)) i none
      ≡ value (operator_of x) (λ k. get_or (take i (bottom_up value none done (x ∷ xs))) k none)
  value_first done x xs i here = rw (here, take_done) (value_here done x xs)

  -- the value k places behind those that are done is made of the values before it
  pub value_onto : (done : List A) (nodes : List Node) (k : ℕ) → k < length nodes → (i : ℕ) → i ≡ length done + k
      → get_or (bottom_up value none done nodes) i none
      ≡ value (operator_of (get_or nodes k zero_node)) (λ j. get_or (take i (bottom_up value none done nodes)) j none)
  unfolding bottom_up
  value_onto done [] k h i e = absurd (not-suc-le-zero h)
  value_onto done (x ∷ xs) zero h i e = value_first done x xs i (omega arith)
  value_onto done (x ∷ xs) (suc k) h i e =
      value_onto (more done x) xs k (le_of_suc-le-suc h) i (rw length-append (omega arith))

  -- there are as many values as nodes
  pub bottom_up-length : (nodes : List Node) → length (bottom_up value none [] nodes) ≡ length nodes
  bottom_up-length nodes = length_onto [] nodes ∙ omega arith

  -- the value of node i is made of the values before it
  pub bottom_up_at : (nodes : List Node) (i : ℕ) → i < length nodes
      → get_or (bottom_up value none [] nodes) i none
      ≡ value (operator_of (get_or nodes i zero_node)) (λ k. get_or (take i (bottom_up value none [] nodes)) k none)
  bottom_up_at nodes i h = value_onto [] nodes i h i (omega arith)

-- a value before node i is the same among the values before it
pub before : {A : Type 0} (xs : List A) (none : A) (i k : ℕ) → k < i → get_or (take i xs) k none ≡ get_or xs k none
before xs none i k h = get_or-take i xs k none h

-- ---- the children of a node

-- P of each child of the operator
abbrev pub OfChildren {ℓ} : (ℕ → Type ℓ) → Operator → Type ℓ
OfChildren P (constant b) = Unit
OfChildren P (atom p) = Unit
OfChildren P (negation a) = P a
OfChildren P (conjunction a b) = P a × P b
OfChildren P (disjunction a b) = P a × P b
OfChildren P (next q a) = P a
OfChildren P (fixpoint f q a b) = P a × P b

-- each child of the operator is a number below i
abbrev pub Below : ℕ → Operator → Type 0
Below i = OfChildren (λ k. k < i)

-- what holds of each number below i holds of the children
of-below {ℓ} : {P : ℕ → Type ℓ} (i : ℕ) (o : Operator) → Below i o → ((k : ℕ) → k < i → P k) → OfChildren P o
of-below i (constant b) h all = tt
of-below i (atom p) h all = tt
of-below i (negation a) h all = all a h
of-below i (conjunction a b) h all = (all a h.0, all b h.1)
of-below i (disjunction a b) h all = (all a h.0, all b h.1)
of-below i (next q a) h all = all a h
of-below i (fixpoint f q a b) h all = (all a h.0, all b h.1)

-- fields that fit give children below i: kinds 0 to 15, and every later one
fields_below : (p i kind a b : ℕ) → FieldsFit (shape_of kind) p i a b
    → Below i (operator_of (record { kind = kind; a = a; b = b }))
fields_below p i zero a b e = tt
fields_below p i (suc zero) a b e = tt
fields_below p i (suc (suc zero)) a b e = tt
fields_below p i (suc (suc (suc zero))) a b e = e.0
fields_below p i (suc (suc (suc (suc zero)))) a b e = e
fields_below p i (suc (suc (suc (suc (suc zero))))) a b e = e
fields_below p i (suc (suc (suc (suc (suc (suc zero)))))) a b e = e.0
fields_below p i (suc (suc (suc (suc (suc (suc (suc zero))))))) a b e = e.0
fields_below p i (suc (suc (suc (suc (suc (suc (suc (suc zero)))))))) a b e = e
fields_below p i (suc (suc (suc (suc (suc (suc (suc (suc (suc zero))))))))) a b e = e
fields_below p i (suc (suc (suc (suc (suc (suc (suc (suc (suc (suc zero)))))))))) a b e = e
fields_below p i (suc (suc (suc (suc (suc (suc (suc (suc (suc (suc (suc zero))))))))))) a b e = e
fields_below p i (suc (suc (suc (suc (suc (suc (suc (suc (suc (suc (suc (suc zero)))))))))))) a b e = (e.0, e.0)
fields_below p i (suc (suc (suc (suc (suc (suc (suc (suc (suc (suc (suc (suc (suc zero))))))))))))) a b e = (e.0, e.0)
fields_below p i (suc (suc (suc (suc (suc (suc (suc (suc (suc (suc (suc (suc (suc (suc zero)))))))))))))) a b e =
    (e.0, e.0)
fields_below p i (suc (suc (suc (suc (suc (suc (suc (suc (suc (suc (suc (suc (suc (suc (suc zero))))))))))))))) a b e =
    (e.0, e.0)
fields_below p i (suc (suc (suc (suc (suc (suc (suc (suc (suc (suc (suc (suc (suc (suc (suc (suc kind))))))))))))))))
    a b e = tt

-- the children of a node of a table have lower numbers than it
pub children_below : (T : Table) → Wellformed T → (i : ℕ) → i < length T.nodes → Below i (operator_of (node_at T i))
children_below T wf i h =
    fields_below T.props i (node_at T i).kind (node_at T i).a (node_at T i).b (wf.each_node_fits i h)

-- what holds of each number below a node holds of the node's children
pub of-children {ℓ} : (T : Table) → Wellformed T → {P : ℕ → Type ℓ} (i : ℕ) → i < length T.nodes
    → ((k : ℕ) → k < i → P k) → OfChildren P (operator_of (node_at T i))
of-children T wf i h = of-below i (operator_of (node_at T i)) (children_below T wf i h)

-- what holds of a node whenever it holds of the node's children holds of each node
pub node-induction {ℓ} : (T : Table) → Wellformed T → (P : ℕ → Type ℓ)
    → ((i : ℕ) → i < length T.nodes → OfChildren P (operator_of (node_at T i)) → P i) → (i : ℕ) → i < length T.nodes
    → P i
node-induction T wf P step i h = go (suc i) i (omega arith) h
  where
    -- the nodes below n
    go : (n i : ℕ) → i < n → i < length T.nodes → P i
    go zero i l h = absurd (not-suc-le-zero l)
    go (suc n) i l h = step i h (of-children T wf i h (λ k g. go n k (omega arith) (omega arith)))

-- ---- values that depend on the children alone

-- the value of an operator is made of the values of its children alone
abbrev pub Reads : {A : Type 0} → (Operator → (ℕ → A) → A) → Type 0
Reads {A} value = (o : Operator) (f g : ℕ → A) → OfChildren (λ k. f k ≡ g k) o → value o f ≡ value o g

-- the value of node i is made of the values of its children
pub bottom_up_children : {A : Type 0} (value : Operator → (ℕ → A) → A) (none : A) → Reads value
    → (T : Table) → Wellformed T → (i : ℕ) → i < length T.nodes
    → get_or (bottom_up value none [] T.nodes) i none
    ≡ value (operator_of (node_at T i)) (λ k. get_or (bottom_up value none [] T.nodes) k none)
bottom_up_children value none reads T wf i h =
    bottom_up_at value none T.nodes i h
    ∙ reads (operator_of (node_at T i)) _ _ (of-children T wf i h (before (bottom_up value none [] T.nodes) none i))
