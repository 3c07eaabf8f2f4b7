-- The words of the levels and those of the states to look at: together they are no more than the variables.
use Prim.Native.Nat.{ℕ, ◌+◌, ◌*◌, ◌≤◌, zero-le}
use native.Mathlib.Nat.{mul-le-mul, mul-le-mul_left}
use native.Mathlib.Omega.{arith}
use mathlib.Core.List.{List, [], ◌∷◌}
use lib.ListN.{length}
use Rattle.table.specs.declared.record.Node.{Node}
use Rattle.table.specs.declared.operator.Family.{Family}
use Rattle.table.specs.declared.operator.Family.TheVariants.{Release, Until, Eventually, Always}
use Rattle.table.specs.Table.{Table}
use Rattle.table.specs.Facts.{Wellformed}
use Rattle.ctl.specs.Rule.{Operator, constant, atom, negation, conjunction, disjunction, next, fixpoint, operator_of}
use Rattle.circuit.specs.Variables.{own_count, cost_of, costs, variable_formula}
use Rattle.readers.specs.Readers.{row_count, row_counts, word_total}
use Rattle.closure.specs.Knowledge.{level_size, level_sizes, level_total}

-- a level has two variables at each state: the level and N
own_two : (fam : Family) → 2 ≤ own_count fam
own_two Release = omega arith
own_two Until = omega arith
own_two Eventually = omega arith
own_two Always = omega arith

module _ (n : ℕ) where
  -- a node takes no more words than it has variables
  words_cost : (e : ℕ) → 1 ≤ n → (o : Operator) → level_size n o + row_count n o ≤ cost_of n e o
  words_cost e some (constant b) = omega arith
  words_cost e some (atom p) = omega arith
  words_cost e some (negation a) = omega arith
  words_cost e some (conjunction a b) = omega arith
  words_cost e some (disjunction a b) = omega arith
  words_cost e some (next q a) = omega arith
  words_cost e some (fixpoint fam q a b) =
      let two : 2 * 1 ≤ own_count fam * n = mul-le-mul (own_two fam) some in
      let all : n * 2 ≤ n * (e + own_count fam * n) = mul-le-mul_left n (omega (arith, two)) in
      omega (arith, all)

  words_costs : (e : ℕ) → 1 ≤ n → (xs : List Node) → level_sizes n xs + row_counts n xs ≤ costs n e xs
  unfolding level_sizes row_counts costs
  words_costs e some [] = zero-le
  words_costs e some (x ∷ xs) = let rest = words_costs e some xs in omega (arith, words_cost e some (operator_of x))

-- K has a variable for its word
pub words_fit : (T : Table) → Wellformed T → level_total T + word_total T ≤ variable_formula T
unfolding variable_formula
words_fit T wf = omega (arith, words_costs (length T.states) (length T.steps) wf.some_state T.nodes, wf.some_state)
