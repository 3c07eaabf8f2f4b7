-- A field byte by byte: what the parser does at its first byte, and at each byte behind.
use Prim.Native.Nat.{ℕ, ◌-◌, ◌≤◌, ◌<◌}
use mathlib.Core.Path.{◌≡◌}
use mathlib.Core.Bool.{true, false, ◌&&◌}
use mathlib.Core.List.{List, ◌∷◌}
use borrow.Author.Tests.{lt-ltb, le-leb, ltb-true, leb-true}
use lib.Dec.{eqb, leb, ltb}
use Rattle.table.proofs.Bools.{and_parts, parts_and}
use Rattle.sheet.specs.Parse.{got, broken, is_digit, extended, extends, digits_up_to, field}

-- a byte is a digit exactly when it is 48 to 57
pub is_digit_lem : (b : ℕ) → 48 ≤ b → b ≤ 57 → is_digit b ≡ true
is_digit_lem b h k = parts_and (leb 48 b) (leb b 57) (le-leb 48 b h) (le-leb b 57 k)

pub digit_bounds : (b : ℕ) → is_digit b ≡ true → (48 ≤ b) × (b ≤ 57)
digit_bounds b e = let p = and_parts (leb 48 b) (leb b 57) e in (leb-true 48 b p.0, leb-true b 57 p.1)

module _ (max : ℕ) where
  -- what a digit that may follow a value says
  pub record Follows (v b : ℕ) : Type 0 where
    pub some : 0 < v
    pub above : 48 ≤ b
    pub below : b ≤ 57
    pub fits : extended v b ≤ max

  -- from the test
  pub follows : (v b : ℕ) → extends max v b ≡ true → Follows v b
  follows v b e =
      let p = and_parts (is_digit b && ltb 0 v) (leb (extended v b) max) e in
      let q = and_parts (is_digit b) (ltb 0 v) p.0 in
      let d = digit_bounds b q.0 in
      record { some = ltb-true 0 v q.1; above = d.0; below = d.1; fits = leb-true (extended v b) max p.1 }

  -- and back
  pub may_follow : (v b : ℕ) → Follows v b → extends max v b ≡ true
  may_follow v b f =
      parts_and (is_digit b && ltb 0 v) (leb (extended v b) max)
      (parts_and (is_digit b) (ltb 0 v) (is_digit_lem b f.above f.below) (lt-ltb 0 v f.some))
      (le-leb (extended v b) max f.fits)

-- at the first byte: a digit begins the value, any other byte breaks the form
module _ (max stop : ℕ) where
  pub field-digit : (b : ℕ) (rest : List ℕ) → is_digit b ≡ true
      → field max stop (b ∷ rest) ≡ digits_up_to max stop (b - 48) rest
  unfolding field
  field-digit b rest e = rw (e, field)

  pub field_broken : (b : ℕ) (rest : List ℕ) → is_digit b ≡ false → field max stop (b ∷ rest) ≡ broken
  unfolding field
  field_broken b rest e = rw (e, field)

  -- at a later byte: the end, one digit more, or the form is broken
  pub scan_end : (v b : ℕ) (rest : List ℕ) → eqb b stop ≡ true → digits_up_to max stop v (b ∷ rest) ≡ got v rest
  unfolding digits_up_to
  scan_end v b rest e = rw (e, digits_up_to)

  pub scan_more : (v b : ℕ) (rest : List ℕ) → eqb b stop ≡ false → extends max v b ≡ true
      → digits_up_to max stop v (b ∷ rest) ≡ digits_up_to max stop (extended v b) rest
  unfolding digits_up_to
  scan_more v b rest e f = rw (e, f, digits_up_to)

  pub scan_broken : (v b : ℕ) (rest : List ℕ) → eqb b stop ≡ false → extends max v b ≡ false
      → digits_up_to max stop v (b ∷ rest) ≡ broken
  unfolding digits_up_to
  scan_broken v b rest e f = rw (e, f, digits_up_to)
