-- The numbers below a bound, and what is listed by them.
use Rattle.std.specs.Prelude.{ℕ, zero, suc, Bool, cond, List, [], ◌∷◌}

-- f 0, .., f (n - 1)
unfoldable pub tabulate {ℓ} : {A : Type ℓ} → ℕ → (ℕ → A) → List A
tabulate zero f = []
tabulate (suc n) f = f zero ∷ tabulate n (λ k. f (suc k))

-- 0, .., n - 1
abbrev pub below : ℕ → List ℕ
below n = tabulate n (λ k. k)

-- those of the numbers that have p
unfoldable pub select : (ℕ → Bool) → List ℕ → List ℕ
select p [] = []
select p (k ∷ ks) = cond (p k) (k ∷ select p ks) (select p ks)
