-- What working out a closure promises: it says whether the closure fails and how many steps it settles, and where it
-- does not fail its step rows have each step kept or struck exactly when that literal is in the closure.
use Rattle.std.specs.Prelude.{ℕ, ◌≤◌, ◌<◌, ◌≡◌, Bool, true, false, Option, None, Some, ◌↔◌, length, get_or}
use mathlib.Core.List.{List, Memᴰ}
use Rattle.sets.specs.Member.{count_of}
use Rattle.table.specs.Table.{Table, step_at}
use Rattle.circuit.specs.Logic.{Literal}
use Rattle.circuit.specs.Variables.{Var, step, literal}
use Rattle.circuit.specs.Clauses.{clauses}
use Rattle.closure.specs.Closure.{Fails}
use Rattle.rows.specs.Steps.{step_bit, step_settled}
use Rattle.closure.specs.Knowledge.{knowledge, Sized, level_total}
use Rattle.propagate.specs.Memory.{Memory}
use Rattle.closure.specs.KnowledgeIn.{KnowledgeIn}
use Rattle.closure.specs.Advance.{ForcedBy}
use Rattle.closure.specs.Settled.{SettledCount}

-- whether the step rows have step j, with this sign
abbrev pub step_known : Table → List ℕ → Bool → ℕ → Bool
step_known T rows sign j = step_bit rows sign (step_at T j)

-- how many steps they have, kept or struck
abbrev pub rows_settled : Table → List ℕ → ℕ
rows_settled T rows = count_of (length T.steps) (λ j. step_settled rows (step_at T j))

-- The answer is how many steps the closure settles, and None where it fails.
abbrev pub is_failed : Option ℕ → Bool
is_failed None = true
is_failed (Some k) = false

-- the number, 0 where it fails
abbrev pub settled_of : Option ℕ → ℕ
settled_of None = 0
settled_of (Some k) = k

-- The rows lie between the literals P, which are of steps, and their closure.
pub record Between (T : Table) (P : List (Literal Var)) (M : Memory) : Type 0 where
  pub of_steps : (l : Literal Var) → Memᴰ l P → (j : ℕ) × (j < length T.steps) × (l.var ≡ step j)
  pub above : (j : ℕ) (sign : Bool) → Memᴰ (literal sign (step j)) P → step_known T M.rows sign j ≡ true
  pub below : KnowledgeIn T (ForcedBy T P) (knowledge T M)

-- The closure of P fails, or the rows that are left hold exactly its literals of steps and lie between P and the
-- closure again. The number is that of the steps that it settles.
pub record Closes (T : Table) (P : List (Literal Var)) (c : Option ℕ) (after : Memory) : Type 0 where
  pub fails_exact : (is_failed c ≡ true) ↔ Fails (clauses T) (λ l. Memᴰ l P)
  pub settled : SettledCount T P (settled_of c)
  pub between : Between T P after
  pub exact : is_failed c ≡ false → (j : ℕ) (sign : Bool) → j < length T.steps
      → (step_known T after.rows sign j ≡ true) ↔ ForcedBy T P (literal sign (step j))

-- What a call leaves: rows and words as large as before, the words past the levels as they were, and for every set of
-- literals that the rows lie between and the closure of, that closure.
pub record ClosesEvery (T : Table) (c : Option ℕ) (before after : Memory) : Type 0 where
  pub sized : Sized T after
  pub same_words_length : length after.words ≡ length before.words
  pub beyond : (k : ℕ) → level_total T ≤ k → get_or after.words k 0 ≡ get_or before.words k 0
  pub closes : (P : List (Literal Var)) → Between T P before → Closes T P c after
