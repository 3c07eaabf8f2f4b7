-- A forced row added where it belongs advances the memory: to a node, to the steps out of a state, to K. Where
-- nothing came of it, the row there knows it already, and knows nothing both ways.
use Prim.Native.Nat.{ℕ, ◌+◌, ◌*◌, ◌<◌}
use native.Mathlib.Nat.{zero-add}
use native.Mathlib.Omega.{arith}
use native.Mathlib.Decide.{ℕ_discrete}
use mathlib.Core.Path.{◌≡◌, refl, sym, ap, subst}
use mathlib.Core.Logic.{inl, inr}
use mathlib.Core.List.{List, Memᴰ}
use lib.ListN.{length}
use Rattle.table.specs.Table.{Table}
use Rattle.table.specs.Facts.{Wellformed}
use Rattle.circuit.specs.Logic.{Literal}
use Rattle.circuit.specs.Variables.{Var, kept, value}
use Rattle.circuit.specs.Clauses.{Clause, clauses}
use Rattle.rows.specs.declared.row.Row.{Row}
use Rattle.rows.specs.Words.{SmallRow, step_place}
use Rattle.closure.specs.Knowledge.{knowledge, Sized}
use Rattle.propagate.specs.Memory.{Memory, node_place, kept_place, add_row, add_step}
use Rattle.closure.specs.KnowledgeIn.{RowIn, StepsIn, KnowledgeIn}
use Rattle.closure.specs.Advance.{ForcedBy}
use Rattle.closure.proofs.Forced.{ClauseClosed, forced_closed}
use Rattle.closure.proofs.ClashSound.{clash_in, clash_steps_in}
use Rattle.closure.proofs.Advances.{Advances, advance_so}
use Rattle.closure.proofs.AddAdvance.{Quiet, union_small, rows_small, add_row_lem}
use Rattle.propagate.proofs.AddedRow.{places_apart}
use Rattle.closure.proofs.AddSound.{union_in, steps_union_in, Suits, rows_keep}

-- what is so of the closure of any literals that the memory is inside of
abbrev pub Given : Table → Memory → ((Literal Var → Type 0) → Type 0) → Type 0
Given T M X = (P : List (Literal Var)) → KnowledgeIn T (ForcedBy T P) (knowledge T M) → X (ForcedBy T P)

-- the forced literals are closed under the clauses
pub closed : (T : Table) (P : List (Literal Var)) (C : Clause) → Memᴰ C (clauses T) → ClauseClosed (ForcedBy T P) C
closed T P = forced_closed

module _ (T : Table) (wf : Wellformed T) (M : Memory) (sized : Sized T M) (x : Row) (small : SmallRow x) where
  pub advance_node : (i : ℕ) → i < length T.nodes → Given T M (λ S. RowIn T S (value T i) x)
      → Advances T (λ K. Quiet x (K.nodes i)) M (add_row (node_place i) x M)
  advance_node i h given = advance_so T (λ q. q) (add_row_lem T M sized (node_place i) x small place (record {
    keeps = λ P inside. rows_keep T wf (ForcedBy T P) (closed T P) M sized (node_place i) x place
        (λ s l. inl (inl (omega (arith, wf.few_states))))
        (inl (inr (omega (arith, wf.few_nodes))))
        (λ k l. node (ForcedBy T P) (given P inside) k (ℕ_discrete k i))
        inside;
    clash = λ c P inside. clash_in T wf (ForcedBy T P) (closed T P) (value T i) _
        (union_small _ x (rows_small T M sized (node_place i)) small)
        (union_in T (ForcedBy T P) (value T i) _ x (inside.nodes i h) (given P inside)) c;
  }))
    where
      place : node_place i + 1 < 130
      place = omega (arith, wf.few_nodes)

      node : (S : Literal Var → Type 0) → RowIn T S (value T i) x → (k : ℕ) → Dec (k ≡ i)
          → Suits (RowIn T S (value T k)) x (node_place i) (node_place k)
      node S added k (yes e) = inr (ap node_place e, subst (λ (j : ℕ). RowIn T S (value T j) x) (sym e) added)
      node S added k (no d) = inl (places_apart 64 k i d)

  pub advance_step : (s : ℕ) → s < length T.states → Given T M (λ S. StepsIn T S s x)
      → Advances T (λ K. Quiet x (K.steps s)) M (add_step s x M)
  advance_step s h given = advance_so T (λ q. q) (add_row_lem T M sized (step_place s) x small place (record {
    keeps = λ P inside. rows_keep T wf (ForcedBy T P) (closed T P) M sized (step_place s) x place
        (λ k l. out (ForcedBy T P) (given P inside) k (ℕ_discrete k s))
        (inl (inr (omega (arith, wf.few_states))))
        (λ k l. inl (inr (omega (arith, wf.few_states))))
        inside;
    clash = λ c P inside. clash_steps_in T wf (ForcedBy T P) (closed T P) s _
        (union_small _ x (rows_small T M sized (step_place s)) small)
        (steps_union_in T (ForcedBy T P) s _ x (inside.steps s h) (given P inside)) c;
  }))
    where
      place : step_place s + 1 < 130
      place = omega (arith, wf.few_states)

      out : (S : Literal Var → Type 0) → StepsIn T S s x → (k : ℕ) → Dec (k ≡ s)
          → Suits (StepsIn T S k) x (step_place s) (step_place k)
      out S added k (yes e) = inr (ap step_place e, subst (λ (j : ℕ). StepsIn T S j x) (sym e) added)
      out S added k (no d) = inl (rw (zero-add (2 * k), zero-add (2 * s)) at (places_apart 0 k s d))

  pub advance_kept : Given T M (λ S. RowIn T S kept x) → Advances T (λ K. Quiet x K.kept) M (add_row kept_place x M)
  advance_kept given = advance_so T (λ q. q) (add_row_lem T M sized kept_place x small (omega arith) (record {
    keeps = λ P inside. rows_keep T wf (ForcedBy T P) (closed T P) M sized kept_place x (omega arith)
        (λ s l. inl (inl (omega (arith, wf.few_states))))
        (inr (refl, given P inside))
        (λ i l. inl (inl (omega (arith, wf.few_nodes))))
        inside;
    clash = λ c P inside. clash_in T wf (ForcedBy T P) (closed T P) kept _
        (union_small _ x (rows_small T M sized kept_place) small)
        (union_in T (ForcedBy T P) kept _ x inside.kept (given P inside)) c;
  }))
