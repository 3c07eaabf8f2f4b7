-- The tests over a whole list, `all`, `any`, `distinct` and `nodes_fit`: what they say at an index, and of a list put
-- behind another.
use Prim.Native.Nat.{ℕ, zero, suc, ◌+◌, ◌<◌, suc-le-suc}
use mathlib.Core.Path.{◌≡◌, refl, sym, ap, ap₂, subst, ◌∙◌}
use mathlib.Core.Logic.{inl, inr}
use mathlib.Core.Bool.{Bool, true, false, not, ◌&&◌, ◌||◌, or_assoc, false≢true}
use mathlib.Core.List.{List, [], ◌∷◌, ◌++◌}
use native.Mathlib.Nat.{add-zero, zero-lt-suc, not-suc-le-zero, le_of_suc-le-suc}
use native.Mathlib.Omega.{arith}
use borrow.Author.Tests.{not-true}
use lib.ListN.{length, get_or}
use Rattle.table.specs.declared.record.Step.{Step}
use Rattle.table.specs.declared.record.Node.{Node}
use Rattle.table.specs.Accept.{all, any, same_step, distinct, node_fits, nodes_fit}
use Rattle.table.proofs.Bools.{and_parts, parts_and, or_parts, or_left, or_right, or_neither, eqb-sym}

module _ {ℓ} {A : Type ℓ} (p : A → Bool) where
  -- a test that all elements pass is passed by the one at i
  pub all_at : (xs : List A) (d : A) → all p xs ≡ true → (i : ℕ) → i < length xs → p (get_or xs i d) ≡ true
  unfolding all
  all_at [] d e i h = absurd (not-suc-le-zero h)
  all_at (x ∷ xs) d e zero h = (and_parts (p x) (all p xs) e).0
  all_at (x ∷ xs) d e (suc i) h = all_at xs d (and_parts (p x) (all p xs) e).1 i (le_of_suc-le-suc h)

  -- a test that is passed at each index is passed by all
  pub at_all : (xs : List A) (d : A) → ((i : ℕ) → i < length xs → p (get_or xs i d) ≡ true) → all p xs ≡ true
  unfolding all
  at_all [] d f = refl
  at_all (x ∷ xs) d f =
      parts_and (p x) (all p xs) (f zero (zero-lt-suc (length xs))) (at_all xs d (λ i h. f (suc i) (suc-le-suc h)))

  -- a test that any element passes is passed at some index
  pub any_at : (xs : List A) (d : A) → any p xs ≡ true → (i : ℕ) × (i < length xs) × (p (get_or xs i d) ≡ true)
  unfolding any
  any_at [] d e = absurd (false≢true e)
  any_at (x ∷ xs) d e =
      elim (or_parts (p x) (any p xs) e) [
        | inl here ↦ (zero, zero-lt-suc (length xs), here)
        | inr later ↦ (let f = any_at xs d later in (suc f.0, suc-le-suc f.1, f.2))
      ]

  -- a test that is passed at one index is passed by some element
  pub at_any : (xs : List A) (d : A) (i : ℕ) → i < length xs → p (get_or xs i d) ≡ true → any p xs ≡ true
  unfolding any
  at_any [] d i h e = absurd (not-suc-le-zero h)
  at_any (x ∷ xs) d zero h e = or_left (p x) (any p xs) e
  at_any (x ∷ xs) d (suc i) h e = or_right (p x) (any p xs) (at_any xs d i (le_of_suc-le-suc h) e)

  -- a test that no element passes is failed by the one at i
  pub none_at : (xs : List A) (d : A) → any p xs ≡ false → (i : ℕ) → i < length xs → p (get_or xs i d) ≡ false
  unfolding any
  none_at [] d e i h = absurd (not-suc-le-zero h)
  none_at (x ∷ xs) d e zero h = (or_neither (p x) (any p xs) e).0
  none_at (x ∷ xs) d e (suc i) h = none_at xs d (or_neither (p x) (any p xs) e).1 i (le_of_suc-le-suc h)

  -- a test that fails at each index is passed by no element
  pub at_none : (xs : List A) (d : A) → ((i : ℕ) → i < length xs → p (get_or xs i d) ≡ false) → any p xs ≡ false
  unfolding any
  at_none [] d f = refl
  at_none (x ∷ xs) d f = ap₂ ◌||◌ (f zero (zero-lt-suc (length xs))) (at_none xs d (λ i h. f (suc i) (suc-le-suc h)))

  pub any_append : (xs ys : List A) → any p (xs ++ ys) ≡ any p xs || any p ys
  unfolding any
  any_append [] ys = refl
  any_append (x ∷ xs) ys = ap (λ (b : Bool). p x || b) (any_append xs ys) ∙ sym (or_assoc (p x) (any p xs) (any p ys))

-- two steps may be compared either way round
pub same_step-sym : (x y : Step) → same_step x y ≡ same_step y x
same_step-sym x y = ap₂ ◌&&◌ (eqb-sym x.from y.from) (eqb-sym x.to y.to)

-- of steps given once, no two at different indices are the same
pub distinct_at : (xs : List Step) (d : Step) → distinct xs ≡ true → (i j : ℕ) → i < j → j < length xs
    → same_step (get_or xs i d) (get_or xs j d) ≡ false
unfolding distinct
distinct_at [] d e i j l h = absurd (not-suc-le-zero h)
distinct_at (x ∷ xs) d e i zero l h = absurd (not-suc-le-zero l)
distinct_at (x ∷ xs) d e zero (suc j) l h =
    none_at (same_step x) xs d (not-true (any (same_step x) xs)
    (and_parts (not (any (same_step x) xs)) (distinct xs) e).0) j (le_of_suc-le-suc h)
distinct_at (x ∷ xs) d e (suc i) (suc j) l h =
    distinct_at xs d (and_parts (not (any (same_step x) xs)) (distinct xs) e).1 i j (le_of_suc-le-suc l)
    (le_of_suc-le-suc h)

-- and back
pub at_distinct : (xs : List Step) (d : Step)
    → ((i j : ℕ) → i < j → j < length xs → same_step (get_or xs i d) (get_or xs j d) ≡ false)
    → distinct xs ≡ true
unfolding distinct
at_distinct [] d f = refl
at_distinct (x ∷ xs) d f =
    parts_and (not (any (same_step x) xs)) (distinct xs)
    (ap not (at_none (same_step x) xs d (λ j h. f zero (suc j) (zero-lt-suc j) (suc-le-suc h))))
    (at_distinct xs d (λ i j l h. f (suc i) (suc j) (suc-le-suc l) (suc-le-suc h)))

regroup : (a b s t : Bool) → not (a || (s || false)) && (b && not t) ≡ not a && b && not (s || t)
regroup true b s t = refl
regroup false true true t = refl
regroup false true false t = refl
regroup false false true t = refl
regroup false false false t = refl

-- with one step more, the steps are distinct when they were and none of them is the same as the new one
pub distinct_snoc : (xs : List Step) (y : Step) → distinct (xs ++ (y ∷ [])) ≡ distinct xs && not (any (same_step y) xs)
unfolding distinct any
distinct_snoc [] y = refl
distinct_snoc (x ∷ xs) y =
    ap₂ (λ (a b : Bool). not a && b) (any_append (same_step x) xs (y ∷ [])) (distinct_snoc xs y)
    ∙ ap (λ (s : Bool). not (any (same_step x) xs || (s || false)) && (distinct xs && not (any (same_step y) xs)))
    (same_step-sym x y)
    ∙ regroup (any (same_step x) xs) (distinct xs) (same_step y x) (any (same_step y) xs)

-- of nodes that fit from number k on, the one at i fits as number k + i
pub nodes_fit_at : (p k : ℕ) (xs : List Node) (d : Node) → nodes_fit p k xs ≡ true → (i : ℕ) → i < length xs
    → node_fits p (k + i) (get_or xs i d) ≡ true
unfolding nodes_fit
nodes_fit_at p k [] d e i h = absurd (not-suc-le-zero h)
nodes_fit_at p k (x ∷ xs) d e zero h =
    subst (λ (n : ℕ). node_fits p n x ≡ true) (sym (add-zero k))
    (and_parts (node_fits p k x) (nodes_fit p (suc k) xs) e).0
nodes_fit_at p k (x ∷ xs) d e (suc i) h =
    subst (λ (n : ℕ). node_fits p n (get_or xs i d) ≡ true) (omega arith)
    (nodes_fit_at p (suc k) xs d (and_parts (node_fits p k x) (nodes_fit p (suc k) xs) e).1 i (le_of_suc-le-suc h))

-- and back
pub at_nodes_fit : (p k : ℕ) (xs : List Node) (d : Node)
    → ((i : ℕ) → i < length xs → node_fits p (k + i) (get_or xs i d) ≡ true)
    → nodes_fit p k xs ≡ true
unfolding nodes_fit
at_nodes_fit p k [] d f = refl
at_nodes_fit p k (x ∷ xs) d f =
    parts_and (node_fits p k x) (nodes_fit p (suc k) xs)
    (subst (λ (n : ℕ). node_fits p n x ≡ true) (add-zero k) (f zero (zero-lt-suc (length xs))))
    (at_nodes_fit p (suc k) xs d
    (λ i h. subst (λ (n : ℕ). node_fits p n (get_or xs i d) ≡ true) (omega arith) (f (suc i) (suc-le-suc h))))
