-- What a node says of its children: the operator of each kind. Specification, "Rules".
use Rattle.std.specs.Prelude.{ℕ, ◌%◌, true, false, cond, eqb, List, [], ◌∷◌, get_or}
use Rattle.table.specs.declared.record.Node.{Node}
use Rattle.table.specs.declared.operator.Family.TheVariants.{Release, Until, Eventually, Always}
use Rattle.table.specs.declared.operator.Quantifier.{Quantifier}
use Rattle.table.specs.declared.operator.Quantifier.TheVariants.{Every as every, Some as some}
use Rattle.table.specs.declared.operator.Operator.{Operator}
use Rattle.table.specs.declared.operator.Operator.TheVariants.{
  Constant as constant,
  Atom as atom,
  Negation as negation,
  Conjunction as conjunction,
  Disjunction as disjunction,
  Next as next,
  Fixpoint as fixpoint,
}

-- kinds 0 to 15
abbrev pub operators : ℕ → ℕ → List Operator
operators a b =
    constant false
    ∷ constant true
    ∷ atom a
    ∷ negation a
    ∷ conjunction a b
    ∷ disjunction a b
    ∷ next every a
    ∷ next some a
    ∷ fixpoint Release every a b
    ∷ fixpoint Release some a b
    ∷ fixpoint Until every a b
    ∷ fixpoint Until some a b
    ∷ fixpoint Eventually every a a
    ∷ fixpoint Eventually some a a
    ∷ fixpoint Always every a a
    ∷ fixpoint Always some a a
    ∷ []

-- from 6 on, an even kind is of every path and an odd one of some path
abbrev pub quantifier_at : ℕ → Quantifier
quantifier_at kind = cond (eqb (kind % 2) 0) every some

-- a kind above 15 is in no accepted table
abbrev pub operator_of : Node → Operator
operator_of x = get_or (operators x.a x.b) x.kind (constant false)
