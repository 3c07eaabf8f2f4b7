-- Numbers upward or downward.
use Rattle.std.specs.Prelude.{ℕ, ◌-◌, Bool, cond}

-- the k-th of n numbers, going up or going down
abbrev pub ordered : Bool → ℕ → ℕ → ℕ
ordered down n k = cond down (n - 1 - k) k
