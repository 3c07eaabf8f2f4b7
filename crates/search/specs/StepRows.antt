-- The step rows of a closure, as the search reads and writes them.
use Rattle.std.specs.Prelude.{ℕ, Bool, true, false, cond, not, ◌||◌, List, Option, eqb, ltb, length, get_or, set}
use Rattle.std.specs.Bool.{then_some}
use Rattle.sets.specs.Member.{member, set_of, lowest_of}
use Rattle.table.specs.Table.{Table, step_at}
use Rattle.ctl.specs.Range.{tabulate}
use Rattle.ctl.specs.Price.{struck_price}
use Rattle.rows.specs.Steps.{word_of, step_bit, step_settled}

module _ (T : Table) (rows : List ℕ) where
  -- step j is known neither way
  abbrev pub is_unsettled : ℕ → Bool
  is_unsettled j = not (step_settled rows (step_at T j))

  -- the lowest such step, where there is one
  abbrev pub lowest_unsettled : Option ℕ
  lowest_unsettled =
      let j : ℕ = lowest_of (length T.steps) is_unsettled in
      then_some (ltb j (length T.steps)) j

  -- the prices of the steps that are known struck, added up
  abbrev pub rows_price : ℕ
  rows_price = struck_price T (λ j. step_bit rows false (step_at T j))

  -- a byte for each step: 1 where it is known kept, else 0
  abbrev pub kept_bytes : List ℕ
  kept_bytes = tabulate (length T.steps) (λ j. cond (step_bit rows true (step_at T j)) 1 0)

  -- the rows with step j known, with this sign
  abbrev pub with_step : Bool → ℕ → List ℕ
  with_step sign j =
      let at : ℕ = word_of sign (step_at T j).from in
      set rows at (set_of 32 (λ t. member (get_or rows at 0) t || eqb t (step_at T j).to))

-- the states whose steps that changes, as a set: the one that step j leaves
abbrev pub changed_by : Table → ℕ → ℕ
changed_by T j = set_of 32 (λ t. member 0 t || eqb t (step_at T j).from)
