-- The steps in order, taken one by one.
use Prim.Native.Nat.{ℕ, zero, suc, ◌+◌, ◌<◌}
use native.Mathlib.Decide.{ℕ_discrete}
use native.Mathlib.Omega.{arith}
use mathlib.Core.Path.{◌≡◌, refl}
use mathlib.Core.List.{List, [], ◌∷◌}
use Rattle.ctl.specs.Range.{tabulate, below}

-- k, .., k + n - 1
unfoldable pub up_from : ℕ → ℕ → List ℕ
up_from k zero = []
up_from k (suc n) = k ∷ up_from (suc k) n

tabulate_up_from : (k n : ℕ) (f : ℕ → ℕ) → ((i : ℕ) → f i ≡ k + i) → tabulate n f ≡ up_from k n
unfolding tabulate up_from
tabulate_up_from k zero f h = refl
tabulate_up_from k (suc n) f h =
    let first : f zero ≡ k = omega (arith, h zero) in
    let rest : tabulate n (λ i. f (suc i)) ≡ up_from (suc k) n =
    tabulate_up_from (suc k) n _ (λ i. omega (arith, h (suc i))) in
    cc

-- the numbers below e, from 0 on
pub below_up_from : (e : ℕ) → below e ≡ up_from 0 e
below_up_from e = tabulate_up_from 0 e (λ k. k) (λ i. omega arith)

-- what holds below k, and of k, holds below k + 1
pub below_suc : (Q : ℕ → Type 0) {k : ℕ} → ((j : ℕ) → j < k → Q j) → Q k → (j : ℕ) → j < suc k → Q j
below_suc Q {k} rest one j h = by (ℕ_discrete j k)
  where
    by : Dec (j ≡ k) → Q j
    by (yes q) = rw q one
    by (no q) = rest j (omega arith)
