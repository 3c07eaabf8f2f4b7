-- Rows: two sets of states, where a variable is known true and where it is known false.
use Rattle.std.specs.Prelude.{ℕ, ◌-◌, ◌≡◌, Bool, true, false, not, ◌&&◌, eqb}
use Rattle.std.specs.Int.Bits.{bit_and, bit_or}
use Rattle.sets.specs.Member.{member, set_of, lowest_of}
use Rattle.rows.specs.declared.row.Row.{Row}

-- the row knows the variable of state s, with this sign
abbrev pub known : Row → Bool → ℕ → Bool
known r true s = member r.yes s
known r false s = member r.no s

-- the row, or its dual
abbrev pub turn : Bool → Row → Row
turn true r = r
turn false r = record { yes = r.no; no = r.yes }

-- the members of x that are not in y
abbrev pub without : ℕ → ℕ → ℕ
without x y = bit_and x (4294967295 - y)

-- x has exactly one member
unfoldable pub only : ℕ → Bool
only x = not (eqb x 0) && eqb (set_of 32 (λ t. member x t && not (eqb t (lowest_of 32 (member x))))) 0

-- what r knows of state s, q knows too
abbrev pub WithinAt : ℕ → Row → Row → Type 0
WithinAt s r q = (sign : Bool) → known r sign s ≡ true → known q sign s ≡ true

-- what r knows, q knows too
abbrev pub Within : Row → Row → Type 0
Within r q = (s : ℕ) → WithinAt s r q

-- nothing is known both ways
abbrev pub ClearAt : ℕ → Row → Type 0
ClearAt s r = known r true s ≡ true → known r false s ≡ true → ⊥

abbrev pub Clear : Row → Type 0
Clear r = (s : ℕ) → ClearAt s r

-- something is
abbrev pub clashes : Row → Bool
clashes r = not (eqb (bit_and r.yes r.no) 0)

-- all that either row knows
abbrev pub union : Row → Row → Row
union r q = record { yes = bit_or r.yes q.yes; no = bit_or r.no q.no }

-- two rows are the same
abbrev pub same_row : Row → Row → Bool
same_row r q = eqb r.yes q.yes && eqb r.no q.no
