-- Labels are meaning: under a total list, a state is marked for a node just when it is kept and the node holds at it.
use Prim.Native.Nat.{ℕ, zero, suc, ◌<◌}
use native.Mathlib.Decide.{dec_lt}
use native.Mathlib.Omega.{arith}
use mathlib.Core.Path.{◌≡◌, refl, sym, ◌∙◌}
use mathlib.Core.Bool.{Bool, true, false, ◌&&◌, ◌||◌, false≢true, and-eq-true_iff}
use mathlib.Core.Logic.Iff
use mathlib.Core.Logic.{◌↔◌, ◌⊎◌, inl, inr, ⊎_elim, ⊎_map}
use mathlib.Core.List.{List, []}
use lib.ListN.{length}
use Rattle.table.specs.declared.operator.Family.{Family}
use Rattle.table.specs.declared.operator.Family.TheVariants.{Release, Until, Eventually, Always}
use Rattle.table.specs.Table.{Table, node_at}
use Rattle.table.specs.Facts.{Wellformed}
use Rattle.ctl.specs.Meaning.{Formula, bottom, Holds}
use Rattle.ctl.specs.Rule.{
  Quantifier,
  every,
  some,
  Operator,
  constant,
  atom,
  negation,
  conjunction,
  disjunction,
  next,
  fixpoint,
  operator_of,
  formula_of,
  formula,
}
use Rattle.ctl.specs.Kept.{Next, Kept, Total, Labelled, NodeHolds}
use Rattle.ctl.specs.Levels.{has, iterate, next_in, level, levels}
use Rattle.ctl.specs.Labels.{marks, targets, is_kept, label_of, label, marked}
use Rattle.ctl.specs.Exact.{LabelsAreMeaning, FormulaOfNode, LevelsArePaths}
use Rattle.ctl.proofs.Tabulate.{length_tabulate, get_d_tabulate, get_d_tabulate_past}
use Rattle.ctl.proofs.Joined.{joined_source}
use Rattle.ctl.proofs.Stable.{level-length, level_mark, level_inside}
use Rattle.ctl.proofs.Paths.{next_every, next_some}
use Rattle.ctl.specs.OnPaths.{OnPaths, Along}
use Rattle.ctl.proofs.Fixpoint.{not-true_iff, level_paths}
use Rattle.ctl.proofs.BottomUp.{OfChildren, Reads, of-children, node-induction, bottom_up_children}
use Rattle.ctl.proofs.Targets.{targets_sound, targets_complete, is_kept_lem, next_inside, next_of_kept}

-- ---- the formula and the label of a node, of those of its children

formula_reads : Reads formula_of
unfolding formula_of
formula_reads (constant false) f g e = refl
formula_reads (constant true) f g e = refl
formula_reads (atom p) f g e = refl
formula_reads (negation a) f g e = rw e
formula_reads (conjunction a b) f g e = rw (e.0, e.1)
formula_reads (disjunction a b) f g e = rw (e.0, e.1)
formula_reads (next every a) f g e = rw e
formula_reads (next some a) f g e = rw e
formula_reads (fixpoint Release every a b) f g e = rw (e.0, e.1)
formula_reads (fixpoint Release some a b) f g e = rw (e.0, e.1)
formula_reads (fixpoint Until every a b) f g e = rw (e.0, e.1)
formula_reads (fixpoint Until some a b) f g e = rw (e.0, e.1)
formula_reads (fixpoint Eventually every a b) f g e = rw e.1
formula_reads (fixpoint Eventually some a b) f g e = rw e.1
formula_reads (fixpoint Always every a b) f g e = rw e.1
formula_reads (fixpoint Always some a b) f g e = rw e.1

-- the formula of a node is made of those of its children
pub formula_of_lem : FormulaOfNode
unfolding formula
formula_of_lem T wf i h = bottom_up_children formula_of bottom formula_reads T wf i h

label_reads : (T : Table) (list : List ℕ) → Reads (label_of T list)
unfolding label_of
label_reads T list (constant b) f g e = refl
label_reads T list (atom p) f g e = refl
label_reads T list (negation a) f g e = rw e
label_reads T list (conjunction a b) f g e = rw (e.0, e.1)
label_reads T list (disjunction a b) f g e = rw (e.0, e.1)
label_reads T list (next q a) f g e = rw e
label_reads T list (fixpoint k q a b) f g e = rw (e.0, e.1)

-- the set of a node is made of those of its children
pub label_of_lem : (T : Table) → Wellformed T → (list : List ℕ) (i : ℕ) → i < length T.nodes
    → label T list i ≡ label_of T list (operator_of (node_at T i)) (label T list)
unfolding label
label_of_lem T wf list i h = bottom_up_children (label_of T list) [] (label_reads T list) T wf i h

-- ---- the set of a node is a set of kept states

-- X has a mark for each state, and only kept states are in it
pub record KeptSet (T : Table) (list : List ℕ) (X : List Bool) : Type 0 where
  pub size : length X ≡ length T.states
  pub inside : (s : ℕ) → has X s ≡ true → Kept T list s

module _ (T : Table) (list : List ℕ) where
  marks_set : (f : ℕ → Bool) → KeptSet T list (marks T list f)
  marks_set f =
      record { size = length_tabulate (length T.states) _; inside = λ s e. go s e (dec_lt s (length T.states)) }
    where
      go : (s : ℕ) → has (marks T list f) s ≡ true → Dec (s < length T.states) → Kept T list s
      go s e (yes h) =
          (is_kept_lem T list s).0 ((and-eq-true_iff (is_kept T list s) (f s)).0
          (sym (get_d_tabulate (length T.states) _ s false h) ∙ e)).0
      go s e (no h) = absurd (false≢true (sym (get_d_tabulate_past (length T.states) _ s false (omega arith)) ∙ e))

  -- the states of a level are kept: each is one of b's, or a next state leaves it
  level-set : (f : Family) (q : Quantifier) (A B : List Bool) → KeptSet T list B → (m : ℕ)
      → KeptSet T list (iterate (level f q (targets T list) (length T.states) A B) B m)
  unfolding iterate
  level-set f q A B k zero = k
  level-set f q A B k (suc m) = record { size = level-length f q (targets T list) _ A B _; inside = λ s e. go s e }
    where
      X : List Bool
      X = iterate (level f q (targets T list) (length T.states) A B) B m

      go : (s : ℕ) → has (level f q (targets T list) (length T.states) A B X) s ≡ true → Kept T list s
      go s e = ⊎_elim (k.inside s)
          (λ x. (is_kept_lem T list s).0 ((and-eq-true_iff (is_kept T list s) _).0
          (sym (next_of_kept q X (targets T list s)) ∙ x)).0)
          (joined_source f (has A s) (has B s) _
          (sym (level_mark f q (targets T list) _ A B X s (level_inside f q (targets T list) _ A B X s e)) ∙ e))

  operator_set : (o : Operator) (child : ℕ → List Bool) → OfChildren (λ k. KeptSet T list (child k)) o
      → KeptSet T list (label_of T list o child)
  unfolding label_of levels
  operator_set (constant b) child k = marks_set _
  operator_set (atom p) child k = marks_set _
  operator_set (negation a) child k = marks_set _
  operator_set (conjunction a b) child k = marks_set _
  operator_set (disjunction a b) child k = marks_set _
  operator_set (next q a) child k = marks_set _
  operator_set (fixpoint f q a b) child k = level-set f q (child a) (child b) k.1 (length T.states)

module _ (T : Table) (wf : Wellformed T) (list : List ℕ) where
  -- the set of a node is a set of kept states, whether or not the list is total
  pub label_set : (i : ℕ) → i < length T.nodes → KeptSet T list (label T list i)
  label_set = node-induction T wf _ (λ i h k. rw (label_of_lem T wf list i h) (operator_set T list _ _ k))

  -- a marked state is kept
  pub marked_kept : (i : ℕ) → i < length T.nodes → (s : ℕ) → marked T list i s ≡ true → Kept T list s
  marked_kept i h = (label_set i h).inside

-- ---- marks that are read one by one

or-true_iff : (x y : Bool) → (x || y ≡ true) ↔ ((x ≡ true) ⊎ (y ≡ true))
or-true_iff true y = (λ e. inl refl, λ r. refl)
or-true_iff false y = (inr, ⊎_elim (λ e. absurd (false≢true e)) (λ e. e))

iff_or : {A B C D : Type 0} → A ↔ C → B ↔ D → (A ⊎ B) ↔ (C ⊎ D)
iff_or f g = (⊎_map f.0 g.0, ⊎_map f.1 g.1)

-- ---- at a kept state, the mark of a node is its meaning

module _ (T : Table) (wf : Wellformed T) (list : List ℕ) (total : Total T list) where
  -- at each kept state, the mark in X says H
  abbrev Means : List Bool → (ℕ → Type 0) → Type 0
  Means X H = (s t : ℕ) → Next T list s t → (has X s ≡ true) ↔ H s

  marks_mean : (f : ℕ → Bool) (H : ℕ → Type 0) → ((s t : ℕ) → Next T list s t → (f s ≡ true) ↔ H s)
      → Means (marks T list f) H
  marks_mean f H is s t h = rw (
    get_d_tabulate (length T.states) (λ s. is_kept T list s && f s) s false (next_inside T wf list s t h).0,
    (is_kept_lem T list s).1 (t, h),
  ) (is s t h)

  module _ (X : List Bool) (H : ℕ → Type 0) (X-is : Means X H) where
    -- the next states of a state are kept
    next_mean : (s u : ℕ) → Next T list s u → (has X u ≡ true) ↔ H u
    next_mean s u g = let k = total s u g in X-is u k.0 k.1

    every_mean : (s t : ℕ) → Next T list s t
        → (next_in every X (targets T list s) ≡ true) ↔ ((u : ℕ) → Next T list s u → H u)
    every_mean s t h =
        Iff.trans (next_every (Next T list) (targets T list) (targets_sound T list) (targets_complete T list) X s t h)
        (λ all u g. (next_mean s u g).0 (all u g), λ all u g. (next_mean s u g).1 (all u g))

    some_mean : (s t : ℕ) → Next T list s t
        → (next_in some X (targets T list s) ≡ true) ↔ ((u : ℕ) × Next T list s u × H u)
    some_mean s t h =
        Iff.trans (next_some (Next T list) (targets T list) (targets_sound T list) (targets_complete T list) X s)
        (λ r. (r.0, r.1, (next_mean s r.0 r.1).0 r.2), λ r. (r.0, r.1, (next_mean s r.0 r.1).1 r.2))

  -- the levels of a fixed-point kind mean what the kind says of the fullpaths
  fixpoint_mean : (f : Family) (q : Quantifier) (A B : List Bool) (a b : ℕ → Type 0) → KeptSet T list B → Means A a
      → Means B b
      → Means (levels f q (targets T list) (length T.states) A B) (λ s. OnPaths q (Next T list) s (Along f a b))
  fixpoint_mean f q A B a b k A-is B-is =
      level_paths (length T.states) (Next T list) (targets T list) (targets_sound T list) (targets_complete T list)
      (λ s t h. (next_inside T wf list s t h).0) total A B k.size a b A-is B-is f q

  abbrev HoldsAt : Formula → ℕ → Type 0
  HoldsAt = Holds (Next T list) (Labelled T)

  -- the set of an operator means the formula of the operator, if those of its children mean theirs
  operator_mean : (o : Operator) (child : ℕ → List Bool) (form : ℕ → Formula)
      → OfChildren (λ k. KeptSet T list (child k)) o → OfChildren (λ k. Means (child k) (HoldsAt (form k))) o
      → Means (label_of T list o child) (HoldsAt (formula_of o form))
  unfolding label_of formula_of Holds
  operator_mean (constant false) child form k is = marks_mean _ _ (λ s t h. (false≢true, absurd))
  operator_mean (constant true) child form k is = marks_mean _ _ (λ s t h. (λ e. tt, λ x. refl))
  operator_mean (atom p) child form k is = marks_mean _ _ (λ s t h. Iff.rfl)
  operator_mean (negation a) child form k is = marks_mean _ _ (λ s t h. Iff.trans (not-true_iff _) (Iff.not (is s t h)))
  operator_mean (conjunction a b) child form k is =
      marks_mean _ _ (λ s t h. Iff.trans (and-eq-true_iff _ _) (Iff.and (is.0 s t h) (is.1 s t h)))
  operator_mean (disjunction a b) child form k is =
      marks_mean _ _ (λ s t h. Iff.trans (or-true_iff _ _) (iff_or (is.0 s t h) (is.1 s t h)))
  operator_mean (next every a) child form k is = marks_mean _ _ (every_mean _ _ is)
  operator_mean (next some a) child form k is = marks_mean _ _ (some_mean _ _ is)
  operator_mean (fixpoint Release every a b) child form k is =
      fixpoint_mean Release every (child a) (child b) _ _ k.1 is.0 is.1
  operator_mean (fixpoint Release some a b) child form k is =
      fixpoint_mean Release some (child a) (child b) _ _ k.1 is.0 is.1
  operator_mean (fixpoint Until every a b) child form k is =
      fixpoint_mean Until every (child a) (child b) _ _ k.1 is.0 is.1
  operator_mean (fixpoint Until some a b) child form k is =
      fixpoint_mean Until some (child a) (child b) _ _ k.1 is.0 is.1
  operator_mean (fixpoint Eventually every a b) child form k is =
      fixpoint_mean Eventually every (child a) (child b) (HoldsAt (form a)) _ k.1 is.0 is.1
  operator_mean (fixpoint Eventually some a b) child form k is =
      fixpoint_mean Eventually some (child a) (child b) (HoldsAt (form a)) _ k.1 is.0 is.1
  operator_mean (fixpoint Always every a b) child form k is =
      fixpoint_mean Always every (child a) (child b) (HoldsAt (form a)) _ k.1 is.0 is.1
  operator_mean (fixpoint Always some a b) child form k is =
      fixpoint_mean Always some (child a) (child b) (HoldsAt (form a)) _ k.1 is.0 is.1

  -- at a kept state, a node's mark says that the node holds
  pub label_mean : (i : ℕ) → i < length T.nodes → (s t : ℕ) → Next T list s t
      → (marked T list i s ≡ true) ↔ NodeHolds T list i s
  label_mean = node-induction T wf _ (λ i h is. rw (label_of_lem T wf list i h, formula_of_lem T wf i h) (
      operator_mean _ _ _ (of-children T wf i h (λ k l. label_set T wf list k (omega arith))) is))

-- Under a total list, a state is marked for a node just when it is kept and the node holds at it.
pub labels_are_meaning : LabelsAreMeaning
labels_are_meaning T wf list total i h s = (
  λ e. let k = marked_kept T wf list i h s e in (k, (label_mean T wf list total i h s k.0 k.1).0 e),
  λ r. (label_mean T wf list total i h s r.0.0 r.0.1).1 r.1,
)

-- The last level of a kind has a kept state just when the kind holds along the fullpaths from it.
pub levels_are_paths : LevelsArePaths
levels_are_paths T wf list total f q A B size s k = level_paths (length T.states) (Next T list) (targets T list)
    (targets_sound T list) (targets_complete T list) (λ s t h. (next_inside T wf list s t h).0) total A B size
    (λ s. has A s ≡ true) (λ s. has B s ≡ true) (λ s t h. Iff.rfl) (λ s t h. Iff.rfl) f q s k.0 k.1
