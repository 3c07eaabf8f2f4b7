-- The answers of a batch at the front of what C lends.
use Prim.Native.Nat.{ℕ, zero, suc, ◌<◌}
use native.Mathlib.Nat.{not-suc-le-zero, le_of_suc-le-suc}
use mathlib.Core.Path.{◌≡◌, refl, ap}
use mathlib.Core.List.{List, [], ◌∷◌, ◌++◌, map}
use lib.ListN.{length, get_or, take}

module _ {A B : Type 0} (f : A → B) where
  pub mapped_at : (xs : List A) (k : ℕ) (d : A) → k < length xs → get_or (map f xs) k (f d) ≡ f (get_or xs k d)
  mapped_at [] k d h = absurd (not-suc-le-zero h)
  mapped_at (x ∷ xs) zero d h = refl
  mapped_at (x ∷ xs) (suc k) d h = mapped_at xs k d (le_of_suc-le-suc h)

  pub mapped_length : (xs : List A) → length (map f xs) ≡ length xs
  mapped_length [] = refl
  mapped_length (x ∷ xs) = ap suc (mapped_length xs)

  -- of a list the first part, mapped
  pub front_mapped : (xs more : List A) → take (length xs) (map f (xs ++ more)) ≡ map f xs
  front_mapped [] more = refl
  front_mapped (x ∷ xs) more = ap (λ (ys : List B). f x ∷ ys) (front_mapped xs more)
