-- The states reached, on words: rows has the set of next states of each state.
use Rattle.std.specs.Prelude.{ℕ, ◌^◌, ◌<◌, ◌≡◌, true, List, get_or}
use Rattle.sets.specs.Member.{member}

-- X has the starts and, with each of its states, the next states of that
pub record ClosedUnderNext (rows : List ℕ) (starts X : ℕ) : Type 0 where
  pub begins : (s : ℕ) → member starts s ≡ true → member X s ≡ true
  pub goes_on : (s t : ℕ) → t < 32 → member X s ≡ true → member (get_or rows s 0) t ≡ true → member X t ≡ true

-- X is the least such set
pub record Least (rows : List ℕ) (starts X : ℕ) : Type 0 where
  pub small : X < 2 ^ 32
  pub closed : ClosedUnderNext rows starts X
  pub least : (Y : ℕ) → ClosedUnderNext rows starts Y → (s : ℕ) → member X s ≡ true → member Y s ≡ true
