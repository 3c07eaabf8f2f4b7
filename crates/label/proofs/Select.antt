-- The laws of `select`.
use Prim.Native.Nat.{ℕ, zero, suc, ◌+◌}
use mathlib.Core.Path.{◌≡◌, refl, sym, ap, ◌∙◌}
use mathlib.Core.Bool.{Bool, true, false, cond, not, ◌&&◌, and-true, and-false}
use mathlib.Core.List.{List, [], ◌∷◌, ◌++◌, Memᴰ}
use native.Mathlib.Omega.{arith}
use lib.ListN.{length}
use Rattle.sets.specs.Member.{count_of}
use Rattle.sets.proofs.SetOf.{count_of_low}
use Rattle.ctl.specs.Range.{tabulate, select}

module _ (p : ℕ → Bool) where
  -- as many of f 0, .., f (n - 1) are selected as have p
  pub select_count : (n : ℕ) (f : ℕ → ℕ) → length (select p (tabulate n f)) ≡ count_of n (λ s. p (f s))
  unfolding select tabulate count_of
  select_count zero f = refl
  select_count (suc n) f =
      go (p (f zero)) ∙ ap (λ (x : ℕ). cond (p (f zero)) 1 0 + x) (select_count n (λ s. f (suc s)))
      ∙ sym (count_of_low n (λ s. p (f s)))
    where
      rest : List ℕ
      rest = select p (tabulate n (λ s. f (suc s)))

      go : (b : Bool) → length (cond b (f zero ∷ rest) rest) ≡ cond b 1 0 + length rest
      go true = omega arith
      go false = omega arith

  -- of one list and then of another
  pub select-append : (xs ys : List ℕ) → select p (xs ++ ys) ≡ select p xs ++ select p ys
  unfolding select
  select-append [] ys = refl
  select-append (x ∷ xs) ys = go (p x) (select-append xs ys)
    where
      go : (b : Bool) → select p (xs ++ ys) ≡ select p xs ++ select p ys
          → cond b (x ∷ select p (xs ++ ys)) (select p (xs ++ ys))
          ≡ cond b (x ∷ select p xs) (select p xs) ++ select p ys
      go true e = ap (λ (zs : List ℕ). x ∷ zs) e
      go false e = e

module _ (p q : ℕ → Bool) where
  -- tests that agree on a list select the same
  pub select_cong : (ks : List ℕ) → ((k : ℕ) → Memᴰ k ks → p k ≡ q k) → select p ks ≡ select q ks
  unfolding select
  select_cong [] e = refl
  select_cong (k ∷ ks) e =
      (λ i. cond (e k (Memᴰ.head refl) i) (k ∷ select p ks) (select p ks))
      ∙ ap (λ (xs : List ℕ). cond (q k) (k ∷ xs) xs) (select_cong ks (λ j m. e j (Memᴰ.tail m)))

  -- what p selects of those that have q has both
  pub select-select : (ks : List ℕ) → select p (select q ks) ≡ select (λ k. p k && q k) ks
  unfolding select
  select-select [] = refl
  select-select (k ∷ ks) = go (q k) (select-select ks)
    where
      both : List ℕ
      both = select (λ k. p k && q k) ks

      go : (b : Bool) → select p (select q ks) ≡ both
          → select p (cond b (k ∷ select q ks) (select q ks)) ≡ cond (p k && b) (k ∷ both) both
      go true e =
          ap (λ (xs : List ℕ). cond (p k) (k ∷ xs) xs) e
          ∙ ap (λ (b : Bool). cond b (k ∷ both) both) (sym (and-true (p k)))
      go false e = e ∙ ap (λ (b : Bool). cond b (k ∷ both) both) (sym (and-false (p k)))

  -- those that have q and those that lack it are all
  pub select_parts : (ks : List ℕ)
      → length (select (λ k. p k && q k) ks) + length (select (λ k. p k && not (q k)) ks) ≡ length (select p ks)
  unfolding select
  select_parts [] = refl
  select_parts (k ∷ ks) = go (p k) (q k) (select_parts ks)
    where
      with_q : List ℕ
      with_q = select (λ k. p k && q k) ks

      without : List ℕ
      without = select (λ k. p k && not (q k)) ks

      go : (b c : Bool) → length with_q + length without ≡ length (select p ks)
          → length (cond (b && c) (k ∷ with_q) with_q) + length (cond (b && not c) (k ∷ without) without)
          ≡ length (cond b (k ∷ select p ks) (select p ks))
      go true true e = omega arith
      go true false e = omega arith
      go false c e = e
