-- What a rule, or rules one after the other, may do to the memory. The contracts of propagation's functions say this;
-- Closes.antt has what comes of it.
use Rattle.std.specs.Prelude.{ℕ, ◌≤◌, ◌<◌, ◌≡◌, true, false, length, get_or}
use mathlib.Core.List.{List, Memᴰ}
use Rattle.sets.specs.Member.{member}
use Rattle.table.specs.Table.{Table}
use Rattle.circuit.specs.Logic.{Literal}
use Rattle.circuit.specs.Variables.{Var}
use Rattle.circuit.specs.Clauses.{clauses}
use Rattle.rows.specs.declared.row.Report.{Report}
use Rattle.closure.specs.Closure.{Forced}
use Rattle.closure.specs.Knowledge.{Knowledge, knowledge, Sized, level_total, total}
use Rattle.propagate.specs.Memory.{Memory}
use Rattle.closure.specs.KnowledgeIn.{KnowledgeIn, Clash}

-- the closure of a list of literals, by the clauses of the table
abbrev pub ForcedBy : Table → List (Literal Var) → Literal Var → Type 0
ForcedBy T P = Forced (clauses T) (λ l. Memᴰ l P)

-- what is known is forced by some literals
abbrev pub Founded : Table → Memory → Type 0
Founded T M = (P : List (Literal Var)) × KnowledgeIn T (ForcedBy T P) (knowledge T M)

-- each bit of the words stays
abbrev pub Grows : List ℕ → List ℕ → Type 0
Grows before after = (k s : ℕ) → member (get_or before k 0) s ≡ true → member (get_or after k 0) s ≡ true

-- `before` is the memory of a table as a rule finds it, `after` as it leaves it. Whatever literals P are given, a
-- rule adds only what is forced, and fails only where something is forced both ways. `Quiet` is what is so of the
-- rows where it added nothing and did not fail.
pub record Advance (T : Table) (Quiet : Knowledge → Type 0) (before after : Memory) (r : Report) : Type 0 where
  pub sized : Sized T after
  pub grows_rows : Grows before.rows after.rows
  pub grows_words : Grows before.words after.words
  pub same_rows_length : length after.rows ≡ length before.rows
  -- the words past the levels stay
  pub beyond : (k : ℕ) → level_total T ≤ k → get_or after.words k 0 ≡ get_or before.words k 0
  pub same_words_length : length after.words ≡ length before.words
  pub sound : (P : List (Literal Var)) → KnowledgeIn T (ForcedBy T P) (knowledge T before)
      → KnowledgeIn T (ForcedBy T P) (knowledge T after)
  pub clash : r.fails ≡ true → (P : List (Literal Var)) → KnowledgeIn T (ForcedBy T P) (knowledge T before)
      → Clash T (ForcedBy T P)
  pub unchanged : r.changed ≡ false → after ≡ before
  pub quiet : r.changed ≡ false → r.fails ≡ false → Quiet (knowledge T before)
  pub more : r.changed ≡ true → total before < total after
