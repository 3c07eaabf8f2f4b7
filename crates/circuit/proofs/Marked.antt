-- At the kept states of a total list, the evaluation of a node is its mark. The evaluation looks at all states and
-- the marks at kept ones alone; but the next states of a kept state are kept.
use Prim.Native.Nat.{ℕ, zero, suc, ◌+◌, ◌<◌, suc-le-suc}
use native.Mathlib.Omega.{arith}
use mathlib.Core.Path.{◌≡◌, refl, sym, ap, ap₂, ◌∙◌}
use mathlib.Core.Bool.{Bool, true, false, not, cond, ◌&&◌, ◌||◌}
use mathlib.Core.Logic.{◌↔◌}
use mathlib.Core.List.Memᴰ
use mathlib.Core.List.{List, [], ◌∷◌, Memᴰ}
use borrow.Author.Tests.{eqb-true, eq-eqb}
use lib.Dec.{eqb}
use lib.ListN.{length, get_or}
use Rattle.table.specs.declared.record.Step.{Step}
use Rattle.table.specs.declared.operator.Family.{Family}
use Rattle.table.specs.Table.{Table, zero_step, step_at}
use Rattle.table.specs.Accept.{all as all_of}
use Rattle.table.specs.Facts.{Wellformed}
use Rattle.ctl.specs.Rule.{
  Quantifier,
  every,
  some,
  Operator,
  constant,
  atom,
  negation,
  conjunction,
  disjunction,
  next,
  fixpoint,
}
use Rattle.ctl.specs.Kept.{Next, Kept, Total}
use Rattle.ctl.specs.Levels.{has, iterate, next_in, joined, level, levels}
use Rattle.ctl.specs.Labels.{kept_steps, ends_from, marks, targets, is_kept, label_of, label, marked}
use Rattle.ctl.proofs.Tabulate.{get_d_tabulate, any-true}
use Rattle.ctl.proofs.Stable.{level_mark}
use Rattle.ctl.proofs.BottomUp.{OfChildren, node-induction}
use Rattle.ctl.proofs.Targets.{targets_sound, targets_complete, is_kept_lem, next_inside}
use Rattle.ctl.proofs.Meaning.{label_of_lem}
use Rattle.circuit.specs.Variables.{out_of, steps_out}
use Rattle.circuit.proofs.Lists.{in_out}
use Rattle.circuit.proofs.Quantified.{quantified, join, quantified_more, quantified_none, quantified_same}
use Rattle.circuit.proofs.Evaluate.{
  edge_value,
  keeps,
  kept_value,
  ahead_value,
  level_value,
  values_of,
  node_value,
  node_value_lem,
}

-- ---- AX and EX, over the steps out of a state and over its next states

-- a struck step says nothing, a kept one what its end says
struck_edge : (q : Quantifier) (x y : Bool) → join q (edge_value q false x) y ≡ y
struck_edge every x y = refl
struck_edge some x y = refl

kept_edge : (q : Quantifier) (x : Bool) → edge_value q true x ≡ x
kept_edge every x = refl
kept_edge some x = refl

none_kept : (xs : List Step) → kept_steps xs [] ≡ []
unfolding kept_steps
none_kept [] = refl
none_kept (x ∷ xs) = refl

module _ (q : Quantifier) (f : ℕ → Bool) (s : ℕ) (on : ℕ → Bool) (to : ℕ → ℕ) where
  abbrev said : ℕ → Bool
  said j = edge_value q (on j) (f (to j))

  -- one step more in front: struck or kept, out of s or not
  one_more : (x : Step) (xs : List Step) (j : ℕ) (js : List ℕ) → to j ≡ x.to
      → quantified q said js ≡ quantified q f (ends_from xs s)
      → (out keep : Bool) → eqb x.from s ≡ out → on j ≡ keep
      → quantified q said (cond out (j ∷ js) js) ≡ quantified q f (ends_from (cond keep (x ∷ xs) xs) s)
  unfolding ends_from
  one_more x xs j js end rest true true is-out is-on =
      rw (is-out, quantified_more q said j js, quantified_more q f x.to (ends_from xs s))
      (ap₂ (join q) (ap₂ (edge_value q) is-on (ap f end) ∙ kept_edge q _) rest)
  one_more x xs j js end rest true false is-out is-on = rw (quantified_more q said j js)
      (ap (λ (b : Bool). join q (edge_value q b (f (to j))) (quantified q said js)) is-on ∙ struck_edge q _ _ ∙ rest)
  one_more x xs j js end rest false true is-out is-on = rw is-out rest
  one_more x xs j js end rest false false is-out is-on = rest

  -- the steps from number j on
  from_steps : (j : ℕ) (xs : List Step) (bits : List ℕ)
      → ((i k : ℕ) → k ≡ j + i → i < length xs → (on k ≡ eqb (get_or bits i 0) 1) × (to k ≡ (get_or xs i zero_step).to))
      → quantified q said (out_of j xs s) ≡ quantified q f (ends_from (kept_steps xs bits) s)
  unfolding out_of kept_steps ends_from
  from_steps j [] bits at = quantified_none q said f
  from_steps j (x ∷ xs) [] at =
      let here = at zero j (omega arith) (omega arith) in
      one_more x (kept_steps xs []) j _ here.1
      (from_steps (suc j) xs [] (λ i k e h. at (suc i) k (omega arith) (suc-le-suc h)))
      _ false refl here.0
      ∙ ap (λ (ys : List Step). quantified q f (ends_from ys s)) (none_kept xs)
  from_steps j (x ∷ xs) (b ∷ bits) at =
      let here = at zero j (omega arith) (omega arith) in
      one_more x _ j _ here.1 (from_steps (suc j) xs bits (λ i k e h. at (suc i) k (omega arith) (suc-le-suc h))) _ _
      refl here.0

-- AX or EX over the steps out of s is that over the next states
next_states : (T : Table) (list : List ℕ) (q : Quantifier) (f : ℕ → Bool) (s : ℕ)
    → ahead_value T list q f s ≡ quantified q f (targets T list s)
unfolding ahead_value
next_states T list q f s = from_steps q f s (keeps T list) (λ j. (step_at T j).to) 0 T.steps list
    (λ i k e h. let same : k ≡ i = omega arith in rw same (refl, refl))

-- and at a state with a next state it is that of the marks
next_marks : (q : Quantifier) (X : List Bool) {t : ℕ} (ts : List ℕ) → Memᴰ t ts
    → quantified q (has X) ts ≡ next_in q X ts
unfolding next_in all_of
next_marks every X [] m = absurd (Memᴰ.not-nil m)
next_marks every X (t ∷ ts) m = refl
next_marks some X ts m = refl

-- ---- the kept states

-- K of a state: the state is kept
pub kept_value_lem : (T : Table) (list : List ℕ) (s : ℕ) → (kept_value T list s ≡ true) ↔ Kept T list s
unfolding kept_value
kept_value_lem T list s = (
  λ e.
      let r = (any-true (keeps T list) (steps_out T s)).0 e in
      let o = (in_out T s r.0).0 r.1 in
      ((step_at T r.0).to, record { step = r.0; listed = o.0; kept = eqb-true _ 1 r.2; leaves = o.1; enters = refl }),
  λ k. let n = k.1 in (any-true (keeps T list) (steps_out T s)).1 (
    n.step,
    (in_out T s n.step).1 (n.listed, n.leaves),
    eq-eqb _ 1 n.kept,
  ),
)

-- ---- the nodes

module _ (T : Table) (wf : Wellformed T) (list : List ℕ) (total : Total T list) where
  -- at each kept state, f is the mark in X
  abbrev Marks : List Bool → (ℕ → Bool) → Type 0
  Marks X f = (s t : ℕ) → Next T list s t → f s ≡ has X s

  -- a set of kept states
  marks_marks : (f g : ℕ → Bool) → ((s t : ℕ) → Next T list s t → f s ≡ g s) → Marks (marks T list g) f
  marks_marks f g same s t h = rw (
    get_d_tabulate (length T.states) (λ s. is_kept T list s && g s) s false (next_inside T wf list s t h).0,
    (is_kept_lem T list s).1 (t, h),
  ) (same s t h)

  -- AX or EX at a kept state, whose next states are kept
  ahead_marks : (q : Quantifier) (X : List Bool) (f : ℕ → Bool) → Marks X f → (s t : ℕ) → Next T list s t
      → ahead_value T list q f s ≡ next_in q X (targets T list s)
  ahead_marks q X f same s t h =
      next_states T list q f s
      ∙ quantified_same q f (has X) (targets T list s)
      (λ u m. let k = total s u (targets_sound T list s u m) in same u k.0 k.1)
      ∙ next_marks q X (targets T list s) (targets_complete T list s t h)

  -- the levels
  level_marks : (f : Family) (q : Quantifier) (A B : List Bool) (x y : ℕ → Bool) → Marks A x → Marks B y → (m : ℕ)
      → Marks (iterate (level f q (targets T list) (length T.states) A B) B m) (level_value T list f q x y m)
  unfolding iterate level_value
  level_marks f q A B x y left right zero s t h = right s t h
  level_marks f q A B x y left right (suc m) s t h =
      ap₂ (λ (v w : Bool). joined f v w (ahead_value T list q (level_value T list f q x y m) s)) (left s t h)
      (right s t h)
      ∙ ap (joined f (has A s) (has B s)) (ahead_marks q _ _ (level_marks f q A B x y left right m) s t h)
      ∙ sym (level_mark f q (targets T list) (length T.states) A B _ s (next_inside T wf list s t h).0)

  -- the values of an operator are its marks, if those of its children are theirs
  operator_marks : (o : Operator) (child : ℕ → List Bool) (values : ℕ → ℕ → Bool)
      → OfChildren (λ k. Marks (child k) (values k)) o
      → Marks (label_of T list o child) (values_of T list o values)
  unfolding label_of values_of levels
  operator_marks (constant b) child values c = marks_marks _ _ (λ s t h. refl)
  operator_marks (atom p) child values c = marks_marks _ _ (λ s t h. refl)
  operator_marks (negation a) child values c = marks_marks _ _ (λ s t h. ap not (c s t h))
  operator_marks (conjunction a b) child values c = marks_marks _ _ (λ s t h. ap₂ ◌&&◌ (c.0 s t h) (c.1 s t h))
  operator_marks (disjunction a b) child values c = marks_marks _ _ (λ s t h. ap₂ ◌||◌ (c.0 s t h) (c.1 s t h))
  operator_marks (next q a) child values c = marks_marks _ _ (ahead_marks q (child a) (values a) c)
  operator_marks (fixpoint f q a b) child values c =
      level_marks f q (child a) (child b) (values a) (values b) c.0 c.1 (length T.states)

  -- At a kept state, the value of a node is its mark.
  pub value_marked : (i : ℕ) → i < length T.nodes → (s t : ℕ) → Next T list s t
      → node_value T list i s ≡ marked T list i s
  value_marked = node-induction T wf (λ i. Marks (label T list i) (node_value T list i)) (λ i h c.
      rw (
        label_of_lem T wf list i h,
        node_value_lem T list wf i h,
      ) (operator_marks _ (label T list) (node_value T list) c))
