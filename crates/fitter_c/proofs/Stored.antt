-- What is stored in the numbers that C lends, by cases of the answer.
use Prim.Native.Nat.{ℕ}
use mathlib.Core.Path.{◌≡◌}
use Rattle.std.specs.Prelude.{Result, Ok, Err}
use Rattle.table.specs.declared.refusal.Refusal.{Refusal}
use Rattle.search.specs.declared.answer.Answer.{Answer}
use Rattle.search.specs.declared.answer.Answer.TheVariants.{Found, None as NoRepair, Spent, Refused}
use Rattle.fitter_c.specs.Exports.{
  given,
  repair_choices,
  repair_price,
  repair_settled,
  RepairStores,
  NumberStored,
}

pub repair_stores : (a : Answer) (c p k c' p' k' : ℕ) → c' ≡ repair_choices a c → p' ≡ repair_price a p
    → k' ≡ repair_settled a k → RepairStores a c p k c' p' k'
repair_stores (Found q d l) c p k c' p' k' x y z = (x, (y, z))
repair_stores (NoRepair d l) c p k c' p' k' x y z = (x, (y, z))
repair_stores (Spent d l) c p k c' p' k' x y z = (x, (y, z))
repair_stores (Refused r) c p k c' p' k' x y z = (x, (y, z))

pub number_stored : (a : Result ℕ Refusal) (before after : ℕ) → after ≡ given a before → NumberStored a before after
number_stored (Ok k) before after e = e
number_stored (Err r) before after e = e
