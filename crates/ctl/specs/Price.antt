-- What striking steps costs: Specification, "Kept lists".
use Rattle.std.specs.Prelude.{ℕ, zero, suc, ◌+◌, Bool, cond, List, eqb, length, get_or}
use Rattle.table.specs.Table.{Table, step_at}

-- f 0 + .. + f (n - 1)
unfoldable pub sum_below : ℕ → (ℕ → ℕ) → ℕ
sum_below zero f = 0
sum_below (suc n) f = sum_below n f + f n

-- the prices of those steps that are struck, added up
abbrev pub struck_price : Table → (ℕ → Bool) → ℕ
struck_price T struck = sum_below (length T.steps) (λ j. cond (struck j) (step_at T j).price 0)

-- the price of a list: that of its struck steps, which are the 0s
abbrev pub list_price : Table → List ℕ → ℕ
list_price T list = struck_price T (λ j. eqb (get_or list j 0) 0)
