-- Labels that compute: the set of states of each node, children first. A state that is not kept is in none.
use Rattle.std.specs.Prelude.{ℕ, Bool, true, false, not, cond, ◌&&◌, ◌||◌, List, [], ◌∷◌, length, get_or, eqb}
use Rattle.sets.specs.Member.{member}
use Rattle.table.specs.declared.record.Step.{Step}
use Rattle.table.specs.Table.{Table, state_at}
use Rattle.ctl.specs.Rule.{Operator, constant, atom, negation, conjunction, disjunction, next, fixpoint, bottom_up}
use Rattle.ctl.specs.Range.{tabulate}
use Rattle.ctl.specs.Levels.{has, next_in, levels}

-- the steps that the list keeps
unfoldable pub kept_steps : List Step → List ℕ → List Step
kept_steps [] bits = []
kept_steps (x ∷ xs) [] = []
kept_steps (x ∷ xs) (b ∷ bits) = cond (eqb b 1) (x ∷ kept_steps xs bits) (kept_steps xs bits)

-- the ends of those of the steps that leave s
unfoldable pub ends_from : List Step → ℕ → List ℕ
ends_from [] s = []
ends_from (x ∷ xs) s = cond (eqb x.from s) (x.to ∷ ends_from xs s) (ends_from xs s)

-- the next states of s under the list
abbrev pub targets : Table → List ℕ → ℕ → List ℕ
targets T list s = ends_from (kept_steps T.steps list) s

abbrev pub nonempty : {A : Type 0} → List A → Bool
nonempty [] = false
nonempty (x ∷ xs) = true

abbrev pub is_kept : Table → List ℕ → ℕ → Bool
is_kept T list s = nonempty (targets T list s)

-- the set of a node, given those of its children
module _ (T : Table) (list : List ℕ) where
  -- the kept states that have f
  abbrev pub marks : (ℕ → Bool) → List Bool
  marks f = tabulate (length T.states) (λ s. is_kept T list s && f s)

  unfoldable pub label_of : Operator → (ℕ → List Bool) → List Bool
  label_of (constant b) child = marks (λ s. b)
  label_of (atom p) child = marks (λ s. member (state_at T s).label p)
  label_of (negation a) child = marks (λ s. not (has (child a) s))
  label_of (conjunction a b) child = marks (λ s. has (child a) s && has (child b) s)
  label_of (disjunction a b) child = marks (λ s. has (child a) s || has (child b) s)
  label_of (next q a) child = marks (λ s. next_in q (child a) (targets T list s))
  label_of (fixpoint f q a b) child = levels f q (targets T list) (length T.states) (child a) (child b)

  -- the set of node i
  unfoldable pub label : ℕ → List Bool
  label i = get_or (bottom_up label_of [] [] T.nodes) i []

-- state s is marked for node i
abbrev pub marked : Table → List ℕ → ℕ → ℕ → Bool
marked T list i s = has (label T list i) s
