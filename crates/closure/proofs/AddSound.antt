-- A row added at a place keeps the memory inside a set: the rows apart from the place stay, and the row at the place
-- is in with what is added.
use Prim.Native.Nat.{ℕ, ◌+◌, ◌<◌}
use native.Mathlib.Omega.{arith}
use mathlib.Core.Path.{◌≡◌, sym, subst}
use mathlib.Core.Logic.{◌⊎◌, inl, inr, ⊎_elim}
use mathlib.Core.List.{List, Memᴰ}
use lib.ListN.{length}
use Rattle.table.specs.Table.{Table}
use Rattle.table.specs.Facts.{Wellformed}
use Rattle.circuit.specs.Logic.{Literal}
use Rattle.circuit.specs.Variables.{Var, kept, value}
use Rattle.circuit.specs.Clauses.{Clause, clauses}
use Rattle.rows.specs.declared.row.Row.{Row}
use Rattle.rows.specs.Row.{union}
use Rattle.rows.specs.Words.{row_at, row_added, step_place}
use Rattle.rows.proofs.RowLaws.{union-true}
use Rattle.closure.specs.Knowledge.{knowledge, Sized}
use Rattle.propagate.specs.Memory.{Memory, node_place, kept_place, add_row}
use Rattle.closure.specs.KnowledgeIn.{RowIn, StepsIn, KnowledgeIn}
use Rattle.closure.proofs.Forced.{ClauseClosed}
use Rattle.propagate.proofs.AddedRow.{Apart, added_here, added_apart}
use Rattle.closure.proofs.KnowledgeInParts.{inner_of, inside_of}

-- what both rows know is in
pub union_in : (T : Table) (S : Literal Var → Type 0) (v : ℕ → Var) (r q : Row) → RowIn T S v r → RowIn T S v q
    → RowIn T S v (union r q)
union_in T S v r q a b sign s k = ⊎_elim (a sign s) (b sign s) ((union-true r q sign s).0 k)

pub steps_union_in : (T : Table) (S : Literal Var → Type 0) (s : ℕ) (r q : Row) → StepsIn T S s r → StepsIn T S s q
    → StepsIn T S s (union r q)
steps_union_in T S s r q a b sign t k = ⊎_elim (a sign t) (b sign t) ((union-true r q sign t).0 k)

-- the row at p is apart from the place, or it is there and what is added has X
abbrev pub Suits : (Row → Type 0) → Row → ℕ → ℕ → Type 0
Suits X x at p = Apart p at ⊎ ((p ≡ at) × X x)

-- X of the rows before is X of the rows after
pub joined_so : (X : Row → Type 0) → ((r q : Row) → X r → X q → X (union r q)) → (ws : List ℕ) (at : ℕ) (x : Row)
    → at + 1 < length ws
    → (p : ℕ) → Suits X x at p → X (row_at ws p) → X (row_at (row_added ws at x) p)
joined_so X both ws at x fits p (inl a) h = subst X (sym (added_apart ws at x fits p a)) h
joined_so X both ws at x fits p (inr (e, k)) h =
    subst (λ (j : ℕ). X (row_at (row_added ws at x) j)) (sym e)
    (subst X (sym (added_here ws at x fits)) (both (row_at ws at) x (subst (λ (j : ℕ). X (row_at ws j)) e h) k))

-- so a row may be added to the rows
pub rows_keep : (T : Table) → Wellformed T → (S : Literal Var → Type 0)
    → ((C : Clause) → Memᴰ C (clauses T) → ClauseClosed S C)
    → (M : Memory) → Sized T M → (at : ℕ) (x : Row) → at + 1 < 130
    → ((s : ℕ) → s < length T.states → Suits (StepsIn T S s) x at (step_place s))
    → Suits (RowIn T S kept) x at kept_place
    → ((i : ℕ) → i < length T.nodes → Suits (RowIn T S (value T i)) x at (node_place i))
    → KnowledgeIn T S (knowledge T M) → KnowledgeIn T S (knowledge T (add_row at x M).memory)
rows_keep T wf S closed M sized at x place steps keeps nodes inside = inside_of T wf S closed (add_row at x M).memory
    (λ s l. joined_so (StepsIn T S s) (steps_union_in T S s) M.rows at x fits (step_place s) (steps s l)
    (inside.steps s l))
    (joined_so (RowIn T S kept) (union_in T S kept) M.rows at x fits kept_place keeps inside.kept)
    (λ i l. joined_so (RowIn T S (value T i)) (union_in T S (value T i)) M.rows at x fits (node_place i) (nodes i l)
    (inside.nodes i l))
    (inner_of T wf S closed M inside)
  where
    fits : at + 1 < length M.rows
    fits = omega (arith, sized.rows_size)
