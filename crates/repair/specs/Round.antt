-- One round of reaching over the steps of a list, from a set of states.
use Rattle.std.specs.Prelude.{ℕ, ◌^◌, ◌<◌, ◌≡◌, true, List}
use Rattle.sets.specs.Member.{member}
use Rattle.table.specs.Table.{Table}
use Rattle.ctl.specs.Kept.{Next, Reached}

-- r has the set, and the end of each kept step out of it; where the set has reached states alone, so has r
pub record Round (T : Table) (list : List ℕ) (set r : ℕ) : Type 0 where
  pub small : r < 2 ^ 32
  pub has_set : (s : ℕ) → member set s ≡ true → member r s ≡ true
  pub has_ends : (s t : ℕ) → Next T list s t → member set s ≡ true → member r t ≡ true
  pub no_other : ((s : ℕ) → member set s ≡ true → Reached T list s) → (s : ℕ) → member r s ≡ true → Reached T list s
