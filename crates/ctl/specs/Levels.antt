-- Sets of states that compute, and the levels of a fixed-point kind. A set of n states is the list of its n marks.
use Rattle.std.specs.Prelude.{ℕ, zero, suc, ◌≡◌, Bool, true, false, ◌&&◌, ◌||◌, List, [], ◌∷◌, get_or}
use Rattle.table.specs.declared.operator.Family.{Family}
use Rattle.table.specs.declared.operator.Family.TheVariants.{Release, Until, Eventually, Always}
use Rattle.table.specs.Accept.{all, any}
use Rattle.ctl.specs.Range.{tabulate}
use Rattle.ctl.specs.Rule.{Quantifier, every, some}

abbrev pub has : List Bool → ℕ → Bool
has X s = get_or X s false

-- every state of X is in Y
abbrev pub Subset : List Bool → List Bool → Type 0
Subset X Y = (s : ℕ) → has X s ≡ true → has Y s ≡ true

unfoldable pub iterate : (List Bool → List Bool) → List Bool → ℕ → List Bool
iterate F X zero = X
iterate F X (suc m) = F (iterate F X m)

-- AX or EX of a set at a state whose next states are ts. A state with no next state is not kept, and has neither.
unfoldable pub next_in : Quantifier → List Bool → List ℕ → Bool
next_in every X [] = false
next_in every X (t ∷ ts) = has X t && all (has X) ts
next_in some X ts = any (has X) ts

-- What a level joins at a state, by its family: the marks of a and b there, and what the next states say of the level
-- below. F is U with a true everywhere, and G is V with a false everywhere.
abbrev pub joined : Family → Bool → Bool → Bool → Bool
joined Release a b next = b && (a || next)
joined Until a b next = b || (a && next)
joined Eventually a b next = b || next
joined Always a b next = b && next

-- one level from the level below
unfoldable pub level : Family → Quantifier → (ℕ → List ℕ) → ℕ → List Bool → List Bool → List Bool → List Bool
level f q targets n A B X = tabulate n (λ s. joined f (has A s) (has B s) (next_in q X (targets s)))

-- level n, from level 0, which is the set of b
unfoldable pub levels : Family → Quantifier → (ℕ → List ℕ) → ℕ → List Bool → List Bool → List Bool
levels f q targets n A B = iterate (level f q targets n A B) B n
