-- The closure as a function that computes it: rounds over the clauses, whose variables are numbers. The law
-- `computed_is_the_forced` says that it fails where the closure fails, and else marks what is forced.
use Rattle.std.specs.Prelude.{ℕ, zero, suc, Bool, true, false, not, cond, ◌&&◌, get_or, set, replicate, eqb}
use Rattle.std.specs.Bool.{beq}
use mathlib.Core.List.{List, [], ◌∷◌}
use Rattle.sets.specs.Member.{count_of}
use Rattle.table.specs.Accept.{all}
use Rattle.ctl.specs.Labels.{nonempty}
use Rattle.circuit.specs.Logic.{Literal}

-- what is known of a variable
pub data Mark : Type 0 where
  unknown : Mark
  known : Bool → Mark

-- a mark for each variable, by its number
abbrev pub Marks : Type 0
Marks = List Mark

abbrev pub mark_at : Marks → ℕ → Mark
mark_at m v = get_or m v unknown

abbrev pub is_known : Mark → Bool
is_known unknown = false
is_known (known b) = true

-- a literal is contradicted when its opposite is known
abbrev pub against : Bool → Mark → Bool
against sign unknown = false
against sign (known b) = not (beq sign b)

abbrev pub contradicted : Marks → Literal ℕ → Bool
contradicted m l = against l.sign (mark_at m l.var)

abbrev pub same_literal : Literal ℕ → Literal ℕ → Bool
same_literal k l = beq k.sign l.sign && eqb k.var l.var

abbrev pub holding : Marks → Literal ℕ → Marks
holding m l = set m l.var (known l.sign)

-- the literals of a clause that are not contradicted
unfoldable pub open_in : Marks → List (Literal ℕ) → List (Literal ℕ)
open_in m [] = []
open_in m (l ∷ ls) = cond (contradicted m l) (open_in m ls) (l ∷ open_in m ls)

-- where it is: marks, and whether the last round added one; or a clash
pub data Progress : Type 0 where
  clash : Progress
  marked : Marks → Bool → Progress

-- one clause: a clash where all its literals are contradicted, a mark where one literal alone is left
unfoldable pub take_clause : List (Literal ℕ) → List (Literal ℕ) → Marks → Bool → Progress
take_clause C [] m new = cond (nonempty C) clash (marked m new)
take_clause C (l ∷ ls) m new =
    cond (all (same_literal l) ls && not (is_known (mark_at m l.var))) (marked (holding m l) true) (marked m new)

unfoldable pub round : List (List (Literal ℕ)) → Marks → Bool → Progress
round [] m new = marked m new
round (C ∷ F) m new = elim (take_clause C (open_in m C) m new) [ clash ↦ clash | marked m' new' ↦ round F m' new' ]

-- rounds over all clauses until one adds nothing
unfoldable pub rounds : ℕ → List (List (Literal ℕ)) → Marks → Progress
rounds zero F m = marked m false
rounds (suc k) F m = elim (round F m false) [
  | clash ↦ clash
  | marked m' new ↦ elim new [ false ↦ marked m' false | true ↦ rounds k F m' ]
]

-- the marks of the literals P alone, of which no two contradict each other
unfoldable pub marks_of : ℕ → List (Literal ℕ) → Marks
marks_of size [] = replicate size unknown
marks_of size (l ∷ P) = holding (marks_of size P) l

-- the closure of P, of clauses over so many variables
abbrev pub closure : ℕ → List (List (Literal ℕ)) → List (Literal ℕ) → Progress
closure size F P = rounds (suc size) F (marks_of size P)

-- of the variables below e, those of the steps, how many it settles, and 0 where it fails
abbrev pub settled_below : ℕ → Progress → ℕ
settled_below e clash = 0
settled_below e (marked m new) = count_of e (λ j. is_known (mark_at m j))
