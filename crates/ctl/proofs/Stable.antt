-- The levels of a monotone step are stable after n steps, whether they fall or rise.
-- A rising chain keeps the marks that are true, a falling chain those that are false. So the kept marks are counted:
-- each step that changes something adds to the count, and the count is at most n.
use Prim.Native.Nat.{ℕ, zero, suc, ◌+◌, ◌≤◌, ◌<◌, zero-le, suc-le-suc}
use native.Mathlib.Nat.{le_trans}
use native.Mathlib.Decide.{dec_lt}
use native.Mathlib.Omega.{arith}
use mathlib.Core.Path.{◌≡◌, refl, sym, ap, ◌∙◌}
use mathlib.Core.Bool.{Bool, true, false, not, cond, beq, true≢false, false≢true}
use mathlib.Core.Logic.{◌⊎◌, inl, inr, ⊎_elim, ⊎_map}
use mathlib.Core.List.{List, [], ◌∷◌}
use lib.ListN.{length, get_or-eq_default}
use Rattle.table.specs.declared.operator.Family.{Family}
use Rattle.table.specs.Accept.{all}
use Rattle.ctl.specs.Rule.{Quantifier, every, some}
use Rattle.ctl.specs.Levels.{has, Subset, iterate, next_in, joined, level, levels}
use Rattle.ctl.proofs.Tabulate.{length_tabulate, get_d_tabulate, all_true, any-true}
use Rattle.ctl.proofs.Joined.{joined_up, falls-or_rises}

-- a step that gives a larger set no smaller result
abbrev pub Monotone : (List Bool → List Bool) → Type 0
Monotone F = (X Y : List Bool) → Subset X Y → Subset (F X) (F Y)

-- ---- sets that keep the marks v

-- each state with the mark v in X has it in Y
abbrev Keeps : Bool → List Bool → List Bool → Type 0
Keeps v X Y = (s : ℕ) → has X s ≡ v → has Y s ≡ v

flip_mark : (v x y : Bool) → (x ≡ v → y ≡ v) → y ≡ not v → x ≡ not v
flip_mark true true y k e = sym (k refl) ∙ e
flip_mark true false y k e = refl
flip_mark false true y k e = refl
flip_mark false false y k e = sym (k refl) ∙ e

-- to keep one mark is to keep the other the other way round
flip_keeps : (v : Bool) (X Y : List Bool) → Keeps v X Y → Keeps (not v) Y X
flip_keeps v X Y k s = flip_mark v (has X s) (has Y s) (k s)

step_keeps : (v : Bool) (F : List Bool → List Bool) → Monotone F → (X Y : List Bool) → Keeps v X Y → Keeps v (F X) (F Y)
step_keeps true F mono X Y k = mono X Y k
step_keeps false F mono X Y k = flip_keeps true (F Y) (F X) (mono Y X (flip_keeps false X Y k))

-- ---- the count of the marks v

abbrev weight : Bool → Bool → ℕ
weight v x = cond (beq x v) 1 0

abbrev count : Bool → List Bool → ℕ
count v [] = 0
count v (x ∷ X) = weight v x + count v X

weight_le : (v x : Bool) → weight v x ≤ 1
weight_le true true = omega arith
weight_le true false = omega arith
weight_le false true = omega arith
weight_le false false = omega arith

count_le : (v : Bool) (X : List Bool) → count v X ≤ length X
count_le v [] = zero-le
count_le v (x ∷ X) = omega (arith, weight_le v x, count_le v X)

weight_grows : (v x y : Bool) → (x ≡ v → y ≡ v) → (x ≡ y) ⊎ (weight v x < weight v y)
weight_grows v true true k = inl refl
weight_grows v false false k = inl refl
weight_grows true true false k = absurd (false≢true (k refl))
weight_grows false false true k = absurd (true≢false (k refl))
weight_grows true false true k = inr (omega arith)
weight_grows false true false k = inr (omega arith)

-- a set that keeps the marks v of another is the same set, or it has more of them
count_grows : (v : Bool) (X Y : List Bool) → length X ≡ length Y → Keeps v X Y → (X ≡ Y) ⊎ (count v X < count v Y)
count_grows v [] [] e k = inl refl
count_grows v [] (y ∷ Y) e k = absurd (omega arith)
count_grows v (x ∷ X) [] e k = absurd (omega arith)
count_grows v (x ∷ X) (y ∷ Y) e k = go (weight_grows v x y (k zero)) (count_grows v X Y (omega arith) (λ s. k (suc s)))
  where
    go : (x ≡ y) ⊎ (weight v x < weight v y) → (X ≡ Y) ⊎ (count v X < count v Y)
        → (x ∷ X ≡ y ∷ Y) ⊎ (count v (x ∷ X) < count v (y ∷ Y))
    go (inl h) (inl t) = inl (cc)
    go (inl h) (inr t) = inr (omega (arith, ap (weight v) h))
    go (inr h) (inl t) = inr (omega (arith, ap (count v) t))
    go (inr h) (inr t) = inr (omega arith)

-- ---- a chain of levels that keeps the marks v

module _ (n : ℕ) (F : List Bool → List Bool) (X : List Bool) (start : length X ≡ n)
    (size : (Y : List Bool) → length (F Y) ≡ n) (mono : Monotone F)
    (v : Bool) (first : Keeps v X (F X)) where
  level_size_lem : (k : ℕ) → length (iterate F X k) ≡ n
  unfolding iterate
  level_size_lem zero = start
  level_size_lem (suc k) = size (iterate F X k)

  chain : (k : ℕ) → Keeps v (iterate F X k) (iterate F X (suc k))
  unfolding iterate
  chain zero = first
  chain (suc k) = step_keeps v F mono (iterate F X k) (iterate F X (suc k)) (chain k)

  -- a level k with at least k marks v is stable, or the next has more than k
  grows : (k : ℕ) → k ≤ count v (iterate F X k)
      → (iterate F X (suc k) ≡ iterate F X k) ⊎ (k < count v (iterate F X (suc k)))
  grows k h = ⊎_map sym (λ (l : count v (iterate F X k) < count v (iterate F X (suc k))). le_trans (suc-le-suc h) l)
      (count_grows v (iterate F X k) (iterate F X (suc k)) (level_size_lem k ∙ sym (level_size_lem (suc k))) (chain k))

  -- so each level k is stable, or the next has more than k marks v
  stable_or_more : (k : ℕ) → (iterate F X (suc k) ≡ iterate F X k) ⊎ (k < count v (iterate F X (suc k)))
  unfolding iterate
  stable_or_more zero = grows zero zero-le
  stable_or_more (suc k) = ⊎_elim (λ e. inl (ap F e)) (grows (suc k)) (stable_or_more k)

  stable_chain : iterate F X (suc n) ≡ iterate F X n
  stable_chain =
      ⊎_elim (λ e. e) (λ l. absurd (omega (arith, l, count_le v (iterate F X (suc n)), level_size_lem (suc n))))
      (stable_or_more n)

-- The levels of a monotone step are stable after n steps.
pub stable : (n : ℕ) (F : List Bool → List Bool) (X : List Bool) → length X ≡ n → ((Y : List Bool) → length (F Y) ≡ n)
    → Monotone F
    → (Subset (F X) X ⊎ Subset X (F X)) → iterate F X (suc n) ≡ iterate F X n
stable n F X start size mono (inl falls) = stable_chain n F X start size mono false (flip_keeps true (F X) X falls)
stable n F X start size mono (inr rises) = stable_chain n F X start size mono true rises

-- ---- the levels of a fixed-point kind

-- a member of a set of n states is below n
pub has_inside : (X : List Bool) (s : ℕ) → has X s ≡ true → s < length X
has_inside X s e = go (dec_lt s (length X))
  where
    go : Dec (s < length X) → s < length X
    go (yes h) = h
    go (no h) = absurd (false≢true (sym (get_or-eq_default X false {n = s} (omega (arith, h))) ∙ e))

-- AX and EX of a larger set hold where those of the smaller do
next_monotone : (q : Quantifier) (X Y : List Bool) (ts : List ℕ) → Subset X Y → next_in q X ts ≡ true
    → next_in q Y ts ≡ true
unfolding next_in all
next_monotone every X Y [] sub e = e
next_monotone every X Y (t ∷ ts) sub e =
    (all_true (has Y) (t ∷ ts)).1 (λ u m. sub u ((all_true (has X) (t ∷ ts)).0 e u m))
next_monotone some X Y ts sub e = let r = (any-true (has X) ts).0 e in (any-true (has Y) ts).1 (r.0, r.1, sub r.0 r.2)

module _ (f : Family) (q : Quantifier) (targets : ℕ → List ℕ) (n : ℕ) (A B : List Bool) where
  -- a level is a set of n states
  pub level-length : (X : List Bool) → length (level f q targets n A B X) ≡ n
  unfolding level
  level-length X = length_tabulate n _

  -- the mark of a state in a level
  pub level_mark : (X : List Bool) (s : ℕ) → s < n
      → has (level f q targets n A B X) s ≡ joined f (has A s) (has B s) (next_in q X (targets s))
  unfolding level
  level_mark X s h = get_d_tabulate n _ s false h

  -- a state of a level is below n
  pub level_inside : (X : List Bool) (s : ℕ) → has (level f q targets n A B X) s ≡ true → s < n
  level_inside X s e = omega (arith, has_inside (level f q targets n A B X) s e, level-length X)

  -- a level rises with the level below it
  level_monotone : Monotone (level f q targets n A B)
  level_monotone X Y sub s e =
      let h = level_inside X s e in
      rw (level_mark Y s h) (joined_up f (has A s) (has B s) _ _ (next_monotone q X Y (targets s) sub)
      (rw (level_mark X s h) at e))

  -- the first level lies in level 0, or has all of it
  first_step : length B ≡ n → Subset (level f q targets n A B B) B ⊎ Subset B (level f q targets n A B B)
  first_step size = ⊎_map
      (λ falls s e. falls (has A s) (has B s) _ (rw (level_mark B s (level_inside B s e)) at e))
      (λ rises s e. rw (level_mark B s (omega (arith, has_inside B s e, size))) (rises (has A s) (has B s) _ e))
      (falls-or_rises f)

  -- Level n is a fixed point, whatever the family: one more step gives it again.
  pub levels_fixed : length B ≡ n → level f q targets n A B (levels f q targets n A B) ≡ levels f q targets n A B
  unfolding levels iterate
  levels_fixed size = stable n (level f q targets n A B) B size level-length level_monotone (first_step size)
