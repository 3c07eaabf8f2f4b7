-- The order of kept lists (Specification, "Kept lists"): of two, the one ranks first that keeps the lowest-numbered
-- step in which they differ. The price comes before the rank.
use Rattle.std.specs.Prelude.{ℕ, ◌≤◌, ◌<◌, ◌≡◌, List, length, get_or}

-- l ranks before m: they agree below a step that l keeps and m strikes
pub record RanksBefore (l m : List ℕ) : Type 0 where
  pub step : ℕ
  pub inside : step < length l
  pub agree : (j : ℕ) → j < step → get_or l j 0 ≡ get_or m j 0
  pub kept : get_or l step 0 ≡ 1
  pub struck : get_or m step 0 ≡ 0

-- l is in P, and every other list in P ranks after it
pub record First (P : List ℕ → Type 0) (l : List ℕ) : Type 0 where
  pub member : P l
  pub before : (m : List ℕ) → P m → ¬ (m ≡ l) → RanksBefore l m

-- Cheapest, then first in rank: no list in P undercuts the price of l, and of those that have its price l is the first.
pub record Cheapest (price : List ℕ → ℕ) (P : List ℕ → Type 0) (l : List ℕ) : Type 0 where
  pub lowest : (m : List ℕ) → P m → price l ≤ price m
  pub first : First (λ m. P m × (price m ≡ price l)) l
