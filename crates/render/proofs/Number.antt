-- A number stored digit by digit.
use Prim.Native.Nat.{ℕ, ◌+◌, ◌/◌, ◌%◌, ◌≤◌, ◌<◌}
use mathlib.Core.Path.{◌≡◌, refl, sym, ap, ◌∙◌}
use mathlib.Core.List.{List, [], ◌∷◌}
use lib.ListN.{length, set, length-append}
use Rattle.sheet.specs.Form.{digit, decimal}
use Rattle.sheet.proofs.Decimal.{decimal_low, decimal_high}
use Rattle.render.specs.Stored.{Stored}
use Rattle.render.proofs.Left.{stored_as, stored_then}

-- a number of one digit
pub low_length : (v : ℕ) → v < 10 → length (decimal v) ≡ 1
low_length v h = ap length (decimal_low v h)

pub low_stored : (text : List ℕ) (at v : ℕ) → v < 10 → Stored text at (decimal v) (set text at (digit v)) (at + 1)
low_stored text at v h =
    stored_as text at (digit v ∷ []) (decimal v) (set text at (digit v)) (at + 1) (sym (decimal_low v h))
    (record { place = refl; text = refl })

-- a number of more digits has one more than its tenth
pub high_length : (v : ℕ) → 10 ≤ v → length (decimal v) ≡ length (decimal (v / 10)) + 1
high_length v h = ap length (decimal_high v h) ∙ length-append (decimal (v / 10)) (digit (v % 10) ∷ [])

pub high_stored : (text : List ℕ) (at v : ℕ) → 10 ≤ v → (mid : List ℕ) (next : ℕ)
    → Stored text at (decimal (v / 10)) mid next → Stored text at (decimal v) (set mid next (digit (v % 10))) (next + 1)
high_stored text at v h mid next s =
    stored_as _ _ _ _ _ _ (sym (decimal_high v h)) (stored_then s (record { place = refl; text = refl }))
