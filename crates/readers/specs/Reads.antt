-- What a node reads, and when two rows know the same.
use Rattle.std.specs.Prelude.{ℕ, ◌≡◌, Bool, true, false, ◌||◌, eqb}
use Rattle.sets.specs.Member.{member}
use Rattle.ctl.specs.Rule.{Operator, constant, atom, negation, conjunction, disjunction, next, fixpoint}
use Rattle.rows.specs.declared.row.Row.{Row}
use Rattle.rows.specs.Row.{known}

-- ---- what a node reads

-- whether node c is a child of a node with this operator
abbrev pub is_child : Operator → ℕ → Bool
is_child (constant b) c = false
is_child (atom p) c = false
is_child (negation a) c = eqb a c
is_child (conjunction a b) c = eqb a c || eqb b c
is_child (disjunction a b) c = eqb a c || eqb b c
is_child (next q a) c = eqb a c
is_child (fixpoint fam q a b) c = eqb a c || eqb b c

-- whether it has levels, and whether it reads the steps
abbrev pub has_levels : Operator → Bool
has_levels (constant b) = false
has_levels (atom p) = false
has_levels (negation a) = false
has_levels (conjunction a b) = false
has_levels (disjunction a b) = false
has_levels (next q a) = false
has_levels (fixpoint fam q a b) = true

abbrev pub reads_steps : Operator → Bool
reads_steps (constant b) = false
reads_steps (atom p) = false
reads_steps (negation a) = false
reads_steps (conjunction a b) = false
reads_steps (disjunction a b) = false
reads_steps (next q a) = true
reads_steps (fixpoint fam q a b) = true

-- ---- rows that agree

-- the rows know the same of state s, and of each state of a set
abbrev pub AgreeAt : ℕ → Row → Row → Type 0
AgreeAt s r q = (sign : Bool) → known q sign s ≡ known r sign s

abbrev pub AgreeOn : ℕ → Row → Row → Type 0
AgreeOn set r q = (t : ℕ) → member set t ≡ true → AgreeAt t r q
