-- A work buffer that is cleared twice is cleared as far as the further of the two.
use Prim.Native.Nat.{ℕ, zero, suc, ◌≤◌, max}
use native.Mathlib.Nat.{not-suc-le-zero, le_of_suc-le-suc, max-zero, zero-max, suc-max-suc}
use mathlib.Core.Path.{◌≡◌, refl, sym, ap, ◌∙◌}
use mathlib.Core.List.{List, [], ◌∷◌}
use lib.ListN.{length}
use Rattle.repair.specs.Effect.{cleared}

pub cleared_twice : (m k : ℕ) (b : List ℕ) → m ≤ length b → k ≤ length b
    → cleared k (cleared m b) ≡ cleared (max m k) b
cleared_twice zero k b h l = ap (λ (j : ℕ). cleared j b) (sym (zero-max k))
cleared_twice (suc m) zero b h l = ap (λ (j : ℕ). cleared j b) (sym (max-zero (suc m)))
cleared_twice (suc m) (suc k) [] h l = absurd (not-suc-le-zero h)
cleared_twice (suc m) (suc k) (x ∷ xs) h l =
    ap (λ (ys : List ℕ). 0 ∷ ys) (cleared_twice m k xs (le_of_suc-le-suc h) (le_of_suc-le-suc l))
    ∙ ap (λ (j : ℕ). cleared j (x ∷ xs)) (sym (suc-max-suc m k))
