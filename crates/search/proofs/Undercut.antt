-- Which prices undercut the cheapest find.
use Prim.Native.Nat.{ℕ, ◌≤◌, ◌<◌}
use native.Mathlib.Omega.{arith}
use mathlib.Core.Path.{◌≡◌, refl}
use mathlib.Core.Bool.{true, false, true≢false}
use borrow.Author.Tests.{ltb-true, ltb-false, lt-ltb, le-ltb}
use Rattle.search.specs.Search.{Best, unfound, find, undercuts}

-- a price that undercuts it is below one that does not
pub under_below : (b : Best) (p q : ℕ) → undercuts p b ≡ true → undercuts q b ≡ false → p < q
under_below unfound p q u v = absurd (true≢false v)
under_below (find m least) p q u v = omega (arith, ltb-true p least u, ltb-false q least v)

-- a lower price undercuts it too
pub under_lower : (b : Best) (p q : ℕ) → p < q → undercuts q b ≡ true → undercuts p b ≡ true
under_lower unfound p q h u = refl
under_lower (find m least) p q h u = lt-ltb p least (omega (arith, ltb-true q least u))

-- a higher one does not, where one does not
pub not_under_higher : (b : Best) (p q : ℕ) → p ≤ q → undercuts p b ≡ false → undercuts q b ≡ false
not_under_higher unfound p q h u = absurd (true≢false u)
not_under_higher (find m least) p q h u = le-ltb q least (omega (arith, ltb-false p least u))
