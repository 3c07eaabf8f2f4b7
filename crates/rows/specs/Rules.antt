-- The rules of propagation on whole rows: for each gate, what the rows of its variables add to each other. Step
-- gates, N and G have no row: what is forced of them is worked out from the rows beside them. A and E, AND and OR,
-- release and until, always and eventually are duals: the rules are those of A, AND, release and always, and `turned`
-- takes the rows of the others.
use Rattle.std.specs.Prelude.{ℕ, Bool, true, false, not, cond, ◌&&◌, ◌||◌, eqb, ltb}
use Rattle.std.specs.Int.Bits.{bit_and, bit_or}
use Rattle.sets.specs.Member.{member, set_of}
use Rattle.rows.specs.declared.row.Row.{Row}
use Rattle.table.specs.declared.operator.Family.{Family}
use Rattle.table.specs.declared.operator.Family.TheVariants.{Release, Until, Eventually, Always}
use Rattle.rows.specs.declared.joined.Joined.{Joined}
use Rattle.rows.specs.Row.{turn, without, only, union, clashes}

abbrev pub row : ℕ → ℕ → Row
row t f = record { yes = t; no = f }

-- ---- N, the AND over the steps out of a state of: struck, or `end` at the step's end

-- the ends of the steps that are not yet known to satisfy it; `target` has all ends, `step` what is known of the steps
abbrev pub unmet : ℕ → Row → Row → ℕ
unmet target step end = without target (bit_or step.no end.yes)

-- N at each of the n states: true where no step is left, false where a kept step's end is known false
abbrev pub ahead_row : (ℕ → ℕ) → (ℕ → Row) → ℕ → Row → Row
ahead_row target step n end = row (set_of n (λ s. eqb (unmet (target s) (step s) end) 0))
    (set_of n (λ s. not (eqb (bit_and (step s).yes end.no) 0)))

-- the same at the states of a set alone
abbrev pub ahead_at : (ℕ → ℕ) → (ℕ → Row) → ℕ → Row → Row
ahead_at target step set end = row
    (set_of 32 (λ s. member set s && eqb (unmet (target s) (step s) end) 0))
    (set_of 32 (λ s. member set s && not (eqb (bit_and (step s).yes end.no) 0)))

-- N known false, and one step left: that step
abbrev pub last_left : ℕ → Row → Row → Bool → ℕ
last_left target step end f = cond (f && only (unmet target step end)) (unmet target step end) 0

-- what N at a state, known true or false, adds to the steps out of it: where true, a step whose end is known false is
-- struck; where false, the last step left is kept
abbrev pub back_steps : ℕ → Row → Row → Bool → Bool → Row
back_steps target step end t f = row (last_left target step end f) (cond t (bit_and target end.no) 0)

-- and to `end` at their ends: where true, it is true at the end of each kept step; where false, it is false at the
-- end of the last step left
abbrev pub back_end : ℕ → Row → Row → Bool → Bool → Row
back_end target step end t f = row (cond t step.yes 0) (last_left target step end f)

-- ---- AND of two inputs

abbrev pub and_output : Row → Row → Row → Row
and_output g a b = row (bit_or g.yes (bit_and a.yes b.yes)) (bit_or g.no (bit_or a.no b.no))

-- what the output, with all that is known of it, adds to an input beside the other
abbrev pub and_input : Row → Row → Row
and_input g other = row g.yes (bit_and g.no other.yes)

-- ---- parts of rows

-- what r knows of the states of a set
abbrev pub masked : ℕ → Row → Row
masked set r = row (bit_and r.yes set) (bit_and r.no set)

-- what r knows that q does not
abbrev pub new_of : Row → Row → Row
new_of r q = row (without r.yes q.yes) (without r.no q.no)

abbrev pub is_none : Row → Bool
is_none r = eqb (bit_or r.yes r.no) 0

-- ---- a level of release: G = a or N, level = b and G

-- G: true where a, N or the level is; false where both a and N are, or where the level is and b is true
abbrev pub either_row : Row → Row → Row → Row → Row
either_row level a b ahead = row
    (bit_or (bit_or a.yes ahead.yes) level.yes)
    (bit_or (bit_and a.no ahead.no) (bit_and level.no b.yes))

-- N, with what G adds to it
abbrev pub ahead_with : Row → Row → Row → Row
ahead_with either a ahead = row (bit_or ahead.yes (bit_and either.yes a.no)) (bit_or ahead.no either.no)

-- what the level, a and b get; N, and what of it the ends did not say already; whether G or N is known both ways
abbrev pub join_with : Row → Row → Row → Row → Row → Joined
join_with either level a b ahead = record {
  level = row (bit_and b.yes either.yes) (bit_or b.no either.no);
  a = row (bit_and either.yes ahead.no) either.no;
  b = row level.yes (bit_and level.no either.yes);
  ahead = ahead_with either a ahead;
  more = new_of (ahead_with either a ahead) ahead;
  fails = clashes either || clashes (ahead_with either a ahead);
}

abbrev pub join_release : Row → Row → Row → Row → Joined
join_release level a b ahead = join_with (either_row level a b ahead) level a b ahead

-- ---- a level of always: level = b and N, with what is known of the level in `up`

abbrev pub join_up : Row → Row → Row → Joined
join_up up b ahead = record {
  level = up;
  a = row 0 0;
  b = and_input up ahead;
  ahead = union ahead (and_input up b);
  more = new_of (union ahead (and_input up b)) ahead;
  fails = clashes (union ahead (and_input up b));
}

abbrev pub join_always : Row → Row → Row → Joined
join_always level b ahead = join_up (and_output level b ahead) b ahead

-- ---- a level, by the family of its node

-- the levels of release and always fall from that of b, those of until and eventually rise from it
abbrev pub falls : Family → Bool
falls Release = true
falls Until = false
falls Eventually = false
falls Always = true

-- the rule of a family that falls, and that of which the family is the dual
abbrev pub join_falling : Family → Row → Row → Row → Row → Joined
join_falling Release level a b ahead = join_release level a b ahead
join_falling Until level a b ahead = join_release level a b ahead
join_falling Eventually level a b ahead = join_always level b ahead
join_falling Always level a b ahead = join_always level b ahead

-- and what it has for G, where there is one
abbrev pub inner_falling : Family → Row → Row → Row → Row → Row
inner_falling Release level a b ahead = either_row level a b ahead
inner_falling Until level a b ahead = either_row level a b ahead
inner_falling Eventually level a b ahead = row 0 0
inner_falling Always level a b ahead = row 0 0

abbrev pub turn_joined : Bool → Joined → Joined
turn_joined e J = record {
  level = turn e J.level;
  a = turn e J.a;
  b = turn e J.b;
  ahead = turn e J.ahead;
  more = turn e J.more;
  fails = J.fails;
}

module _ (family : Family) (level a b ahead : Row) where
  abbrev dual : Row → Row
  dual = turn (falls family)

  -- what a level joins, and what it has for G
  abbrev pub join_of : Joined
  join_of = turn_joined (falls family) (join_falling family (dual level) (dual a) (dual b) (dual ahead))

  abbrev pub inner_of : Row
  inner_of = dual (inner_falling family (dual level) (dual a) (dual b) (dual ahead))

-- ---- K of a state, and its steps

-- the steps out of s that are not struck
abbrev pub unstruck : ℕ → Row → ℕ
unstruck target step = without target step.no

-- what the steps out of s add to K: a kept step keeps s and its end; s with no step left is not kept
abbrev pub kept_row : ℕ → ℕ → Row → Row
kept_row s target step = row
    (bit_or step.yes (set_of 32 (λ t. eqb t s && not (eqb step.yes 0))))
    (set_of 32 (λ t. eqb t s && eqb (unstruck target step) 0))

-- what K adds to the steps out of s: the last step left of a kept state is kept; a step is struck where its own state
-- or its end is not kept
abbrev pub kept_back : ℕ → ℕ → Row → Row → Row
kept_back s target step kept = row
    (cond (member kept.yes s && only (unstruck target step)) (unstruck target step) 0)
    (bit_or (cond (member kept.no s) target 0) (bit_and target kept.no))

-- ---- the initial states

-- those that may yet be kept
abbrev pub open_starts : ℕ → Row → ℕ
open_starts initial kept = without initial kept.no

-- the last of them is kept; an initial state where the root is false is not
abbrev pub start_kept : ℕ → Row → Row → Row
start_kept initial kept root =
    row (cond (only (open_starts initial kept)) (open_starts initial kept) 0) (bit_and root.no initial)

-- a kept initial state has the root
abbrev pub start_root : ℕ → Row → Row
start_root initial kept = row (bit_and kept.yes initial) 0

-- ---- constants

-- of n states: those of a set true, the others false
abbrev pub constant_row : ℕ → ℕ → Row
constant_row n set = row set (without (set_of 32 (λ t. ltb t n)) set)
