-- What the numbers of an answer are at most: the choices the cap, and the price 255 for each of 128 steps.
use Prim.Native.Nat.{ℕ, ◌≤◌}
use mathlib.Core.Path.{◌≡◌, refl}
use native.Mathlib.Omega.{arith}
use lib.Dec.{eqb}
use lib.ListN.{get_or}
use Rattle.table.specs.Table.{Table, step_at}
use Rattle.table.specs.Facts.{Wellformed}
use Rattle.ctl.proofs.Price.{price_most}
use Rattle.search.specs.Search.{Outcome, found, none, spent}
use Rattle.search.specs.TableSearch.{search_under, search_free, list_of}
use Rattle.search.specs.Right.{choices}
use Rattle.search.proofs.Right.{search_is_right}
use Rattle.search.proofs.UnderCap.{under_cap}

-- the price that is printed of an outcome
abbrev pub price : Outcome → ℕ
price (found m p c k) = p
price (none c k) = 0
price (spent c k) = 0

module _ (T : Table) (wf : Wellformed T) (cap : ℕ) where
  pub choices_few : choices (search_under T cap) ≤ cap
  choices_few = under_cap T wf cap (λ o. choices o ≤ cap) (λ over. omega arith) (λ within. within)

  module _ (bytes : (j : ℕ) → (step_at T j).price ≤ 255) where
    free_price : (o : Outcome) → search_free T ≡ o → price o ≤ 32640
    free_price (found m p c k) e =
        omega (
          arith,
          ((search_is_right T wf).found_cheapest m p c k e).1,
          price_most T (λ j. eqb (get_or (list_of T m) j 0) 0) 255 bytes,
          wf.few_steps,
        )
    free_price (none c k) e = omega arith
    free_price (spent c k) e = omega arith

    pub price_few : price (search_under T cap) ≤ 32640
    price_few =
        under_cap T wf cap (λ o. price o ≤ 32640) (λ over. omega arith) (λ within. free_price (search_free T) refl)
