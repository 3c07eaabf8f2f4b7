-- `ahead` meets its contract: the two sets are collected, one member of the given set after the other.
use Prim.Native.Nat.{ℕ}
use mathlib.Core.Path.{◌≡◌}
use mathlib.Core.List.{List}
use mathlib.Core.Bool.{Bool, not, ◌&&◌}
use lib.Bits.{bit_and}
use lib.Dec.{eqb}
use lib.ListN.{get_or}
use Rattle.sets.specs.Member.{member, set_of}
use Rattle.sets.proofs.Walk.{Left}
use Rattle.rows.specs.declared.row.Row.{Row}
use Rattle.rows.specs.Rules.{unmet}
use Rattle.rows.specs.Words.{row_at, step_place}
use Rattle.rows.proofs.next.ahead.Given as goal

-- where N is true, and where it is false
abbrev pub is_met : List ℕ → List ℕ → Row → ℕ → Bool
is_met targets rows end s = eqb (unmet (get_or targets s 0) (row_at rows (step_place s)) end) 0

abbrev pub is_lost : List ℕ → Row → ℕ → Bool
is_lost rows end s = not (eqb (bit_and (row_at rows (step_place s)).yes end.no) 0)

-- the members of the set that are gone through and have f
abbrev pub found : ℕ → ℕ → (ℕ → Bool) → ℕ
found set left f = set_of 32 (λ t. (member set t && not (member left t)) && f t)

abbrev pub invariant-loop-s : goal.invariant-loop-s
invariant-loop-s l =
    Left l.set l.s-iterator.left
    × (l.yes ≡ found l.set l.s-iterator.left (is_met l.targets l.rows l.end))
    × (l.no ≡ found l.set l.s-iterator.left (is_lost l.rows l.end))
