-- The k-th of n numbers, going up or going down.
use Prim.Native.Nat.{ℕ, ◌<◌}
use native.Mathlib.Omega.{arith}
use mathlib.Core.Path.{◌≡◌, refl}
use mathlib.Core.Bool.{Bool, true, false}
use Rattle.events.specs.Ordered.{ordered}

-- it is one of the n
pub ordered-below : (down : Bool) (n k : ℕ) → k < n → ordered down n k < n
ordered-below true n k h = omega arith
ordered-below false n k h = h

-- and to go the same way twice leads back, so that each of the n has its turn
pub ordered_twice : (down : Bool) (n k : ℕ) → k < n → ordered down n (ordered down n k) ≡ k
ordered_twice true n k h = omega arith
ordered_twice false n k h = refl
