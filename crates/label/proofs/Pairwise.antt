-- Lists in which each stands in a relation to all behind it.
use Prim.Native.Nat.{ℕ, zero, suc, ◌<◌}
use mathlib.Core.Path.{◌≡◌, refl, sym, subst, ◌∙◌}
use mathlib.Core.Bool.{Bool, true, false, cond}
use mathlib.Core.Logic.{◌↔◌, ⊎_elim}
use mathlib.Core.List.Memᴰ
use mathlib.Core.List.{List, [], ◌∷◌, ◌++◌, Memᴰ}
use native.Mathlib.Nat.{not-suc-le-zero, le_of_suc-le-suc}
use native.Mathlib.Omega.{arith}
use lib.ListN.{length, get_or}
use Rattle.ctl.specs.Range.{tabulate, select}
use Rattle.ctl.proofs.Select.{in_select}
use Rattle.ctl.proofs.Tabulate.{tabulate_member}
use Rattle.label.specs.ReadingOrder.{Pairwise}

-- what stands at an index is in the list
pub get_d_member : (xs : List ℕ) (i : ℕ) → i < length xs → Memᴰ (get_or xs i 0) xs
get_d_member [] i h = absurd (not-suc-le-zero h)
get_d_member (x ∷ xs) zero h = Memᴰ.head refl
get_d_member (x ∷ xs) (suc i) h = Memᴰ.tail (get_d_member xs i (le_of_suc-le-suc h))

module _ (R : ℕ → ℕ → Type 0) where
  pub select_pairwise : (p : ℕ → Bool) (ks : List ℕ) → Pairwise R ks → Pairwise R (select p ks)
  unfolding select
  select_pairwise p [] a = tt
  select_pairwise p (j ∷ ks) a = go (p j) (select_pairwise p ks a.1)
    where
      go : (b : Bool) → Pairwise R (select p ks) → Pairwise R (cond b (j ∷ select p ks) (select p ks))
      go true r = (λ y m. a.0 y ((in_select p ks y).0 m).0, r)
      go false r = r

  pub pairwise_append : (xs ys : List ℕ) → Pairwise R xs → Pairwise R ys → ((x y : ℕ) → Memᴰ x xs → Memᴰ y ys → R x y)
      → Pairwise R (xs ++ ys)
  pairwise_append [] ys a b across = b
  pairwise_append (x ∷ xs) ys a b across = (
    λ y m. ⊎_elim (λ l. a.0 y l) (λ r. across x y (Memᴰ.head refl) r) (Memᴰ.append_cases xs m),
    pairwise_append xs ys a.1 b (λ u v m. across u v (Memᴰ.tail m)),
  )

  -- at two indices
  pub pairwise_at : (xs : List ℕ) → Pairwise R xs → (i j : ℕ) → i < j → j < length xs
      → R (get_or xs i 0) (get_or xs j 0)
  pairwise_at [] a i j l h = absurd (not-suc-le-zero h)
  pairwise_at (x ∷ xs) a i zero l h = absurd (not-suc-le-zero l)
  pairwise_at (x ∷ xs) a zero (suc j) l h = a.0 (get_or xs j 0) (get_d_member xs j (le_of_suc-le-suc h))
  pairwise_at (x ∷ xs) a (suc i) (suc j) l h = pairwise_at xs a.1 i j (le_of_suc-le-suc l) (le_of_suc-le-suc h)

  -- ---- where no two stand so both ways, there is one such list of the same members

  module _ (one_way : (x y : ℕ) → R x y → ¬ R y x) where
    -- two lists begin alike: what is behind the first of one is behind the first of the other
    behind : (x y : ℕ) (xs ys : List ℕ) → x ≡ y → Pairwise R (x ∷ xs) → ((s : ℕ) → Memᴰ s (x ∷ xs) → Memᴰ s (y ∷ ys))
        → (s : ℕ) → Memᴰ s xs → Memᴰ s ys
    behind x y xs ys e a inside s m = ⊎_elim
        (λ q. absurd (let r = subst (λ (t : ℕ). R x t) (q ∙ sym e) (a.0 s m) in one_way x x r r))
        (λ u. u)
        (Memᴰ.cases_cons (inside s (Memᴰ.tail m)))

    pub pairwise_only : (xs ys : List ℕ) → Pairwise R xs → Pairwise R ys → ((s : ℕ) → Memᴰ s xs ↔ Memᴰ s ys) → xs ≡ ys
    pairwise_only [] [] a b same = refl
    pairwise_only [] (y ∷ ys) a b same = absurd (Memᴰ.not-nil ((same y).1 (Memᴰ.head refl)))
    pairwise_only (x ∷ xs) [] a b same = absurd (Memᴰ.not-nil ((same x).0 (Memᴰ.head refl)))
    pairwise_only (x ∷ xs) (y ∷ ys) a b same =
        λ i. first i
        ∷ pairwise_only xs ys a.1 b.1 (λ
        s. (behind x y xs ys first a (λ t. (same t).0) s, behind y x ys xs (sym first) b (λ t. (same t).1) s)) i
      where
        first : x ≡ y
        first = ⊎_elim (λ e. e)
            (λ u. ⊎_elim (λ e. sym e) (λ v. absurd (one_way x y (a.0 y v) (b.0 x u)))
            (Memᴰ.cases_cons ((same y).1 (Memᴰ.head refl))))
            (Memᴰ.cases_cons ((same x).0 (Memᴰ.head refl)))

-- a relation that follows from another among the members
pub pairwise_map : (R S : ℕ → ℕ → Type 0) (ks : List ℕ) → ((x y : ℕ) → Memᴰ x ks → Memᴰ y ks → R x y → S x y)
    → Pairwise R ks → Pairwise S ks
pairwise_map R S [] f a = tt
pairwise_map R S (k ∷ ks) f a = (
  λ y m. f k y (Memᴰ.head refl) (Memᴰ.tail m) (a.0 y m),
  pairwise_map R S ks (λ x y m n. f x y (Memᴰ.tail m) (Memᴰ.tail n)) a.1,
)

-- what is tabulated of a function that rises ascends
pub tabulate_ascending : (n : ℕ) (f : ℕ → ℕ) → ((i j : ℕ) → i < j → f i < f j) → Pairwise ◌<◌ (tabulate n f)
unfolding tabulate
tabulate_ascending zero f up = tt
tabulate_ascending (suc n) f up = (
  λ y m. let r = tabulate_member n (λ s. f (suc s)) m in rw r.2 (up zero (suc r.0) (omega arith)),
  tabulate_ascending n (λ s. f (suc s)) (λ i j h. up (suc i) (suc j) (omega arith)),
)
