-- The prices of a table's steps are what the search needs to find the cheapest repair.
use Prim.Native.Nat.{ℕ}
use mathlib.Core.Path.{◌≡◌, refl, sym, ap, ◌∙◌}
use mathlib.Core.Bool.{true, false, false≢true}
use lib.Dec.{eqb}
use lib.ListN.{length, get_or}
use Rattle.table.specs.Table.{Table}
use Rattle.ctl.specs.Price.{list_price}
use Rattle.ctl.proofs.Price.{price_same, price_grows}
use Rattle.closure.specs.Computed.{Mark, unknown, known, mark_at, is_known}
use Rattle.search.specs.TableSearch.{bit_of, bytes_of, is_struck, mark_price}
use Rattle.search.proofs.Agree.{get_d_bytes_of}
use Rattle.search.proofs.Needs.{PriceIsRight}

struck_known : (x : Mark) → is_struck x ≡ true → x ≡ known false
struck_known unknown e = absurd (false≢true e)
struck_known (known true) e = absurd (false≢true e)
struck_known (known false) e = refl

-- a known mark is that of a struck step where its byte is 0
struck_bit : (x : Mark) → is_known x ≡ true → is_struck x ≡ eqb (bit_of x) 0
struck_bit unknown e = absurd (false≢true e)
struck_bit (known true) e = refl
struck_bit (known false) e = refl

pub price_is_right : (T : Table) → PriceIsRight (length T.steps) (mark_price T) (list_price T)
price_is_right T = record {
  least = λ m list struck. price_grows T (λ j. is_struck (mark_at m j)) (λ j. eqb (get_or list j 0) 0)
      (λ j h e. ap (λ (b : ℕ). eqb b 0) (struck j h (struck_known (mark_at m j) e)));
  exact = λ m settled. price_same T (λ j. is_struck (mark_at m j))
      (λ j. eqb (get_or (bytes_of (length T.steps) m) j 0) 0)
      (λ j h. struck_bit (mark_at m j) (settled j h)
      ∙ ap (λ (b : ℕ). eqb b 0) (sym (get_d_bytes_of (length T.steps) m j h)));
}
