-- The sum of the words grows with each bit that is added.
use Prim.Native.Nat.{ℕ, zero, suc, ◌+◌, ◌≤◌, ◌<◌}
use native.Mathlib.Omega.{arith}
use mathlib.Core.Path.{◌≡◌, sym}
use mathlib.Core.Bool.{true}
use mathlib.Core.List.{List, [], ◌∷◌}
use lib.ListN.{length, get_or}
use Rattle.rows.specs.declared.row.Row.{Row}
use Rattle.rows.specs.Words.{row_added, report_of}
use Rattle.closure.specs.Knowledge.{sum}
use Rattle.propagate.proofs.AddedRow.{added_length, added_up, added_more}

-- no word is smaller
sum-le : (xs ys : List ℕ) → length xs ≡ length ys → ((k : ℕ) → get_or xs k 0 ≤ get_or ys k 0) → sum xs ≤ sum ys
unfolding sum
sum-le [] [] e h = omega arith
sum-le [] (y ∷ ys) e h = omega arith
sum-le (x ∷ xs) [] e h = absurd (omega arith)
sum-le (x ∷ xs) (y ∷ ys) e h = omega (arith, h zero, sum-le xs ys (omega arith) (λ k. h (suc k)))

-- and one is larger
sum_lt : (xs ys : List ℕ) → length xs ≡ length ys → ((k : ℕ) → get_or xs k 0 ≤ get_or ys k 0)
    → (k : ℕ) → get_or xs k 0 < get_or ys k 0 → sum xs < sum ys
unfolding sum
sum_lt [] [] e h k l = absurd (omega arith)
sum_lt [] (y ∷ ys) e h k l = absurd (omega arith)
sum_lt (x ∷ xs) [] e h k l = absurd (omega arith)
sum_lt (x ∷ xs) (y ∷ ys) e h zero l = omega (arith, l, sum-le xs ys (omega arith) (λ k. h (suc k)))
sum_lt (x ∷ xs) (y ∷ ys) e h (suc k) l = omega (arith, h zero, sum_lt xs ys (omega arith) (λ k. h (suc k)) k l)

pub added-sum : (ws : List ℕ) (at : ℕ) (x : Row) → at + 1 < length ws → (report_of ws at x).changed ≡ true
    → sum ws < sum (row_added ws at x)
added-sum ws at x fits e =
    let r = added_more ws at x fits e in
    sum_lt ws (row_added ws at x) (sym (added_length ws at x)) (added_up ws at x fits) r.0 r.1
