-- What the step of a choice count tells: whether the cap is reached, and else the next count.
use Prim.Native.Nat.{ℕ, ◌+◌}
use native.Mathlib.Omega.{arith}
use mathlib.Core.Path.{◌≡◌, refl}
use mathlib.Core.Bool.{Bool, true, false}
use lib.Dec.{eqb}
use Rattle.search.specs.declared.choices.Choices.{Choices}
use Rattle.std.specs.Prelude.{Some, None}
use Rattle.search.specs.NextCount.{next_count_if, next_count}

module _ (c : Choices) where
  pub next_count_some : (d : Choices) → Some d ≡ next_count c
      → (eqb c.made c.cap ≡ false) × (d ≡ record { made = c.made + 1; cap = c.cap })
  next_count_some d = go (eqb c.made c.cap)
    where
      go : (b : Bool) → Some d ≡ next_count_if b c → (b ≡ false) × (d ≡ record { made = c.made + 1; cap = c.cap })
      go true e = let z : ◌≡◌ {A = ℕ} 0 1 = cc in absurd (omega arith)
      go false e = (refl, cc)

  pub next_count_none : None ≡ next_count c → eqb c.made c.cap ≡ true
  next_count_none = go (eqb c.made c.cap)
    where
      go : (b : Bool) → None ≡ next_count_if b c → b ≡ true
      go true e = refl
      go false e = let z : ◌≡◌ {A = ℕ} 0 1 = cc in absurd (omega arith)
