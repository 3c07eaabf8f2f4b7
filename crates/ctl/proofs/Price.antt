-- The price of struck steps: that of the same ones is the same, more cost no less, and it is bounded.
use Prim.Native.Nat.{ℕ, ◌*◌, ◌≤◌, ◌<◌}
use mathlib.Core.Path.{◌≡◌, refl}
use mathlib.Core.Bool.{Bool, true, false, cond, false≢true}
use native.Mathlib.Omega.{arith}
use lib.ListN.{length}
use Rattle.table.specs.Table.{Table, step_at}
use Rattle.ctl.specs.Price.{struck_price}
use Rattle.ctl.proofs.Sums.{sum_cong, sum-le, sum_most}

cond-le : (a b : Bool) (k : ℕ) → (a ≡ true → b ≡ true) → cond a k 0 ≤ cond b k 0
cond-le true true k h = omega arith
cond-le true false k h = absurd (false≢true (h refl))
cond-le false true k h = omega arith
cond-le false false k h = omega arith

-- a step that costs at most k costs at most k where it is struck
pub cond_most : (b : Bool) (p k : ℕ) → p ≤ k → cond b p 0 ≤ k
cond_most true p k h = h
cond_most false p k h = omega arith

-- steps that cost at most k each cost in all at most k times their number
pub price_most : (T : Table) (f : ℕ → Bool) (k : ℕ) → ((j : ℕ) → (step_at T j).price ≤ k)
    → struck_price T f ≤ k * length T.steps
price_most T f k most = sum_most (length T.steps) k _ (λ j. cond_most (f j) (step_at T j).price k (most j))

module _ (T : Table) (f g : ℕ → Bool) where
  -- the same steps struck cost the same
  pub price_same : ((j : ℕ) → j < length T.steps → f j ≡ g j) → struck_price T f ≡ struck_price T g
  price_same same = sum_cong (length T.steps) _ _ (λ j h. λ i. cond (same j h i) (step_at T j).price 0)

  -- more steps struck cost no less
  pub price_grows : ((j : ℕ) → j < length T.steps → f j ≡ true → g j ≡ true) → struck_price T f ≤ struck_price T g
  price_grows more = sum-le (length T.steps) _ _ (λ j h. cond-le (f j) (g j) (step_at T j).price (more j h))
