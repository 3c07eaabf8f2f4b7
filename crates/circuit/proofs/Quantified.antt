-- A test of every element of a list, or of some: what holds of both is said once, over the quantifier.
use mathlib.Core.Path.{◌≡◌, refl, ap, ap₂}
use mathlib.Core.Bool.{Bool, ◌&&◌, ◌||◌}
use mathlib.Core.List.Memᴰ
use mathlib.Core.List.{List, [], ◌∷◌, map}
use Rattle.table.specs.Accept.{all as all_of, any as any_of}
use Rattle.ctl.specs.Rule.{Quantifier, every, some}
use Rattle.circuit.proofs.Lists.{Each}

-- every element, or some element, passes
abbrev pub quantified : {A : Type 0} → Quantifier → (A → Bool) → List A → Bool
quantified every p xs = all_of p xs
quantified some p xs = any_of p xs

-- what the first element says, and what the others say
abbrev pub join : Quantifier → Bool → Bool → Bool
join every x y = x && y
join some x y = x || y

-- one element more
pub quantified_more : {A : Type 0} (q : Quantifier) (p : A → Bool) (x : A) (xs : List A)
    → quantified q p (x ∷ xs) ≡ join q (p x) (quantified q p xs)
unfolding all_of any_of
quantified_more every p x xs = refl
quantified_more some p x xs = refl

-- of an empty list, all tests say the same
pub quantified_none : {A B : Type 0} (q : Quantifier) (f : A → Bool) (g : B → Bool)
    → quantified q f [] ≡ quantified q g []
unfolding all_of any_of
quantified_none every f g = refl
quantified_none some f g = refl

-- tests that agree on the elements
pub quantified_same : {A : Type 0} (q : Quantifier) (f g : A → Bool) (xs : List A) → Each (λ x. f x ≡ g x) xs
    → quantified q f xs ≡ quantified q g xs
quantified_same q f g [] e = quantified_none q f g
quantified_same q f g (x ∷ xs) e = rw (quantified_more q f x xs, quantified_more q g x xs) (
    ap₂ (join q) (e x (Memᴰ.head refl)) (quantified_same q f g xs (λ y m. e y (Memᴰ.tail m))))

-- a test of mapped elements
pub quantified_map : {A B : Type 0} (q : Quantifier) (p : B → Bool) (f : A → B) (xs : List A)
    → quantified q p (map f xs) ≡ quantified q (λ x. p (f x)) xs
quantified_map q p f [] = quantified_none q p (λ x. p (f x))
quantified_map q p f (x ∷ xs) = rw (quantified_more q p (f x) (map f xs), quantified_more q (λ x. p (f x)) x xs) (
    ap (join q (p (f x))) (quantified_map q p f xs))
