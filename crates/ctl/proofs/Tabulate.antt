-- The laws of `tabulate`, `all` and `any`.
use Prim.Native.Nat.{ℕ, zero, suc, ◌≤◌, ◌<◌, zero-le, suc-le-suc}
use native.Mathlib.Nat.{le_of_suc-le-suc, not-suc-le-zero}
use mathlib.Core.Path.{◌≡◌, refl, sym, ap, ◌∙◌}
use mathlib.Core.Bool.{Bool, true, false, ◌&&◌, ◌||◌, true≢false, false≢true, and-eq-true_iff, or-eq-true_iff}
use mathlib.Core.Logic.Or
use mathlib.Core.Logic.{◌↔◌, ⊎_elim}
use mathlib.Core.List.Memᴰ
use mathlib.Core.List.{List, [], ◌∷◌, Memᴰ}
use lib.ListN.{length, get_or, take, get_or-eq_default}
use Rattle.table.specs.Accept.{all, any}
use Rattle.ctl.specs.Range.{tabulate}

module _ {ℓ} {A : Type ℓ} where
  -- n elements
  pub length_tabulate : (n : ℕ) (f : ℕ → A) → length (tabulate n f) ≡ n
  unfolding tabulate
  length_tabulate zero f = refl
  length_tabulate (suc n) f = ap suc (length_tabulate n (λ k. f (suc k)))

  -- the element at a place below n
  pub get_d_tabulate : (n : ℕ) (f : ℕ → A) (s : ℕ) (d : A) → s < n → get_or (tabulate n f) s d ≡ f s
  unfolding tabulate
  get_d_tabulate zero f s d h = absurd (not-suc-le-zero h)
  get_d_tabulate (suc n) f zero d h = refl
  get_d_tabulate (suc n) f (suc s) d h = get_d_tabulate n (λ k. f (suc k)) s d (le_of_suc-le-suc h)

  -- no element stands at n or past it
  pub get_d_tabulate_past : (n : ℕ) (f : ℕ → A) (s : ℕ) (d : A) → n ≤ s → get_or (tabulate n f) s d ≡ d
  get_d_tabulate_past n f s d h = get_or-eq_default (tabulate n f) d (rw length_tabulate h)

  -- the first k of them
  pub take_tabulate : (k n : ℕ) (f : ℕ → A) → k ≤ n → take k (tabulate n f) ≡ tabulate k f
  unfolding tabulate
  take_tabulate zero n f h = refl
  take_tabulate (suc k) zero f h = absurd (not-suc-le-zero h)
  take_tabulate (suc k) (suc n) f h =
      ap (λ (xs : List A). f zero ∷ xs) (take_tabulate k n (λ i. f (suc i)) (le_of_suc-le-suc h))

  in_tail : {P : A → Type 0} {x : A} {xs : List A} → (y : A) × Memᴰ y xs × P y → (y : A) × Memᴰ y (x ∷ xs) × P y
  in_tail r = (r.0, Memᴰ.tail r.1, r.2)

  all-member : (p : A → Bool) {x : A} {xs : List A} → Memᴰ x xs → all p xs ≡ true → p x ≡ true
  unfolding all
  all-member p (Memᴰ.head {x = y} {xs = ys} h) e = ap p h ∙ ((and-eq-true_iff (p y) (all p ys)).0 e).0
  all-member p (Memᴰ.tail {x = y} {xs = ys} m) e = all-member p m ((and-eq-true_iff (p y) (all p ys)).0 e).1

  all_of : (p : A → Bool) (xs : List A) → ((x : A) → Memᴰ x xs → p x ≡ true) → all p xs ≡ true
  unfolding all
  all_of p [] h = refl
  all_of p (x ∷ xs) h =
      (and-eq-true_iff (p x) (all p xs)).1 (h x (Memᴰ.head refl), all_of p xs (λ y m. h y (Memᴰ.tail m)))

  -- `all` is true: every member has p
  pub all_true : (p : A → Bool) (xs : List A) → (all p xs ≡ true) ↔ ((x : A) → Memᴰ x xs → p x ≡ true)
  all_true p xs = (λ e x m. all-member p m e, all_of p xs)

  -- `all` is false: a member that lacks p
  pub all-false : (p : A → Bool) (xs : List A) → all p xs ≡ false → (x : A) × Memᴰ x xs × (p x ≡ false)
  unfolding all
  all-false p [] e = absurd (true≢false e)
  all-false p (x ∷ xs) e = go (p x) refl e (λ e'. all-false p xs e')
    where
      go : (b : Bool) → p x ≡ b → b && all p xs ≡ false → (all p xs ≡ false → (y : A) × Memᴰ y xs × (p y ≡ false))
          → (y : A) × Memᴰ y (x ∷ xs) × (p y ≡ false)
      go true h e' rest = in_tail (rest e')
      go false h e' rest = (x, Memᴰ.head refl, h)

  any-member : (p : A → Bool) {x : A} {xs : List A} → Memᴰ x xs → p x ≡ true → any p xs ≡ true
  unfolding any
  any-member p (Memᴰ.head {x = y} {xs = ys} h) e = (or-eq-true_iff (p y) (any p ys)).1 (Or.inl (sym (ap p h) ∙ e))
  any-member p (Memᴰ.tail {x = y} {xs = ys} m) e = (or-eq-true_iff (p y) (any p ys)).1 (Or.inr (any-member p m e))

  any_search : (p : A → Bool) (xs : List A) → any p xs ≡ true → (x : A) × Memᴰ x xs × (p x ≡ true)
  unfolding any
  any_search p [] e = absurd (false≢true e)
  any_search p (x ∷ xs) e = go (p x) refl e (λ e'. any_search p xs e')
    where
      go : (b : Bool) → p x ≡ b → b || any p xs ≡ true → (any p xs ≡ true → (y : A) × Memᴰ y xs × (p y ≡ true))
          → (y : A) × Memᴰ y (x ∷ xs) × (p y ≡ true)
      go true h e' rest = (x, Memᴰ.head refl, h)
      go false h e' rest = in_tail (rest e')

  -- `any` is true: a member that has p
  pub any-true : (p : A → Bool) (xs : List A) → (any p xs ≡ true) ↔ ((x : A) × Memᴰ x xs × (p x ≡ true))
  any-true p xs = (any_search p xs, λ r. any-member p r.1 r.2)

-- what stands in a tabulated list: the values below n, and no other
pub member_tabulate : {A : Type 0} (n : ℕ) (f : ℕ → A) (s : ℕ) → s < n → Memᴰ (f s) (tabulate n f)
unfolding tabulate
member_tabulate zero f s h = absurd (not-suc-le-zero h)
member_tabulate (suc n) f zero h = Memᴰ.head refl
member_tabulate (suc n) f (suc s) h = Memᴰ.tail (member_tabulate n (λ k. f (suc k)) s (le_of_suc-le-suc h))

pub tabulate_member : {A : Type 0} (n : ℕ) (f : ℕ → A) {x : A} → Memᴰ x (tabulate n f) → (s : ℕ) × (s < n) × (x ≡ f s)
unfolding tabulate
tabulate_member zero f m = absurd (Memᴰ.not-nil m)
tabulate_member (suc n) f m = ⊎_elim
    (λ e. (zero, suc-le-suc zero-le, e))
    (λ m'. let r = tabulate_member n (λ k. f (suc k)) m' in (suc r.0, suc-le-suc r.1, r.2))
    (Memᴰ.cases_cons m)
