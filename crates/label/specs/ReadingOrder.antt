-- The order in which Holding writes states (Specification, "Calls"): the initial states first, ascending, then the
-- others, ascending.
use Rattle.std.specs.Prelude.{ℕ, ◌<◌, ◌≡◌, Bool, true, false, not, ◌⊎◌}
use mathlib.Core.List.{List, [], ◌∷◌, ◌++◌, Memᴰ}
use Rattle.ctl.specs.Range.{below, select}

-- the order itself: the 32 states that a table has at most, each in its place. `initial` tells which are initial
abbrev pub reading_order : (ℕ → Bool) → List ℕ
reading_order initial = select initial (below 32) ++ select (λ s. not (initial s)) (below 32)

-- the states that have p, in a given order
abbrev pub states_with : List ℕ → (ℕ → Bool) → List ℕ
states_with order p = select p order

-- ---- the same order, said of two states and of a list of states

-- s is read before t: s is initial and t is not, or they are alike in this and s is lower
abbrev pub ReadBefore : (ℕ → Bool) → ℕ → ℕ → Type 0
ReadBefore initial s t = ((initial s ≡ true) × (initial t ≡ false)) ⊎ ((initial s ≡ initial t) × (s < t))

-- each stands in a relation to all behind it
abbrev pub Pairwise : (ℕ → ℕ → Type 0) → List ℕ → Type 0
Pairwise R [] = Unit
Pairwise R (x ∷ xs) = ((y : ℕ) → Memᴰ y xs → R x y) × Pairwise R xs

abbrev pub InReadingOrder : (ℕ → Bool) → List ℕ → Type 0
InReadingOrder initial states = Pairwise (ReadBefore initial) states
