-- The words of the step rows.
use Prim.Native.Nat.{ℕ, ◌<◌}
use mathlib.Core.Path.{◌≡◌, refl}
use mathlib.Core.Bool.{Bool, true, false}
use mathlib.Core.List.{List}
use native.Mathlib.Omega.{arith}
use lib.ListN.{get_or}
use Rattle.sets.specs.Member.{member}
use Rattle.rows.specs.Row.{known}
use Rattle.rows.specs.Words.{row_at, step_place}
use Rattle.rows.specs.Steps.{word_of}

-- those of the states below 32 are the first 64
pub word_below : (sign : Bool) (s : ℕ) → s < 32 → word_of sign s < 64
word_below true s h = omega arith
word_below false s h = omega arith

-- what a row knows of a state is a bit of one of its words
pub word_bit : (rows : List ℕ) (sign : Bool) (s t : ℕ)
    → member (get_or rows (word_of sign s) 0) t ≡ known (row_at rows (step_place s)) sign t
word_bit rows true s t = refl
word_bit rows false s t = refl

-- each word is of one sign and one state
pub word_apart : (a b : Bool) (s t : ℕ) → word_of a s ≡ word_of b t → (a ≡ b) × (s ≡ t)
word_apart true true s t e = (refl, omega arith)
word_apart true false s t e = absurd (omega arith)
word_apart false true s t e = absurd (omega arith)
word_apart false false s t e = (refl, omega arith)
