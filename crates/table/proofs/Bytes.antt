-- Lists of bytes: their parts are bytes too, and so is the price of a step read from them.
use Prim.Native.Nat.{ℕ, zero, suc, ◌+◌, ◌*◌, ◌<◌}
use mathlib.Core.Path.{sym, subst}
use mathlib.Core.List.{List, [], ◌∷◌}
use native.Mathlib.Omega.{arith}
use lib.ListN.{get_or, take, drop}
use lib.Seq.{get_or-drop}
use Rattle.table.specs.Table.{
  records,
  table_of,
  counts_of,
  step_of,
  steps_part,
  header_width,
  state_width,
  step_width,
  zero_step,
  step_at,
}

-- every element is a byte
abbrev pub Bytes : List ℕ → Type 0
Bytes l = (i : ℕ) → get_or l i 0 < 256

-- and so is every element of a part
pub bytes_drop : (n : ℕ) (l : List ℕ) → Bytes l → Bytes (drop n l)
bytes_drop n l h i = subst (λ (b : ℕ). b < 256) (sym (get_or-drop n l i 0)) (h (n + i))

bytes_take : (n : ℕ) (l : List ℕ) → Bytes l → Bytes (take n l)
bytes_take zero l h i = omega arith
bytes_take (suc n) [] h i = h i
bytes_take (suc n) (x ∷ l) h zero = h zero
bytes_take (suc n) (x ∷ l) h (suc i) = bytes_take n l (λ j. h (suc j)) i

pub bytes_part : (size start : ℕ) (l : List ℕ) → Bytes l → Bytes (take size (drop start l))
bytes_part size start l h = bytes_take size (drop start l) (bytes_drop start l h)

record_price : (count : ℕ) (l : List ℕ) → Bytes l → (j : ℕ)
    → (get_or (records step_of step_width count l) j zero_step).price < 256
unfolding records
record_price zero l h j = omega arith
record_price (suc count) l h zero = h 2
record_price (suc count) l h (suc j) = record_price count (drop step_width l) (bytes_drop step_width l h) j

-- the price of a step is a byte; past the last step it is 0
pub price_byte : (bytes : List ℕ) → Bytes bytes → (j : ℕ) → (step_at (table_of bytes) j).price < 256
price_byte bytes h =
    record_price (counts_of bytes).steps (steps_part bytes)
    (bytes_part (step_width * (counts_of bytes).steps) (header_width + state_width * (counts_of bytes).states) bytes h)
