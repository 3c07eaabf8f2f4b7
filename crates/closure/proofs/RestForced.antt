-- Rows at rest hold all that is forced: what they say is closed under the unit rule for every clause of the table,
-- and says no variable of it both ways.
use Prim.Native.Nat.{ℕ, ◌<◌}
use mathlib.Core.Path.{◌≡◌, sym, subst}
use mathlib.Core.Bool.{Bool, true, false, not}
use mathlib.Core.Logic.{⊎_elim}
use mathlib.Core.List.{List, Memᴰ}
use lib.ListN.{length}
use Rattle.table.specs.Table.{Table, step_at}
use Rattle.table.specs.Facts.{Wellformed}
use Rattle.circuit.specs.Logic.{Literal, opposite}
use Rattle.circuit.specs.Variables.{Var, step, variables, literal}
use Rattle.circuit.specs.Clauses.{Clause, clauses}
use Rattle.circuit.proofs.Outputs.{variable_cases, step_variable}
use Rattle.circuit.proofs.Covered.{clause_variables}
use Rattle.circuit.proofs.Clauses.{each_clause}
use Rattle.closure.specs.Closure.{given, unit, Fails}
use Rattle.rows.specs.Row.{known, ClearAt}
use Rattle.closure.specs.Knowledge.{Knowledge, Small}
use Rattle.closure.specs.Rest.{Rest}
use Rattle.closure.specs.Advance.{ForcedBy}
use Rattle.closure.proofs.Forced.{ClauseClosed, forced_least}
use Rattle.closure.proofs.AndClosed.{gate_closed}
use Rattle.closure.proofs.Apart.{gates_apart}
use Rattle.closure.proofs.Says.{row_of, place_of, Says}
use Rattle.closure.proofs.RestBackFull.{OfTable}
use Rattle.closure.proofs.RestNodes.{gates_good}
use Rattle.closure.proofs.RestDemands.{demands_closed}

-- each literal of P is of a step of the table, and the step rows have it
abbrev pub Held : Table → Knowledge → List (Literal Var) → Type 0
Held T K P = (l : Literal Var) → Memᴰ l P
    → (j : ℕ) × (j < length T.steps) × (l.var ≡ step j)
    × (known (K.steps (step_at T j).from) l.sign (step_at T j).to ≡ true)

module _ (T : Table) (wf : Wellformed T) (K : Knowledge) (small : Small K) (rest : Rest T K) (ours : OfTable T K) where
  -- what the rows say is closed under the unit rule
  says_closed : (C : Clause) → Memᴰ C (clauses T) → ClauseClosed (Says T K) C
  says_closed = each_clause T _
      (λ d m. gate_closed (Says T K) d.output d.gate (gates_good T wf K small rest ours d m).0 (gates_apart T wf d m))
      (demands_closed T wf K rest small)

  -- no variable of the table is known both ways
  says_clear : (v : Var) → Memᴰ v (variables T) → ClearAt (place_of T v) (row_of T K v)
  unfolding row_of place_of
  says_clear v m = ⊎_elim
      (λ j. subst (λ (v : Var). ClearAt (place_of T v) (row_of T K v)) j.2
      ((rest.kept (step_at T j.0).from (wf.from_state j.0 j.1)).clear (step_at T j.0).to))
      (λ d. subst (λ (v : Var). ClearAt (place_of T v) (row_of T K v)) d.2
      (gates_good T wf K small rest ours d.0 d.1).1)
      (variable_cases T v m)

  not_both : (sign : Bool) (v : Var) → Memᴰ v (variables T) → Says T K (literal sign v)
      → Says T K (literal (not sign) v) → ⊥
  not_both true v m e f = says_clear v m e f
  not_both false v m e f = says_clear v m f e

  module _ (P : List (Literal Var)) (held : Held T K P) where
    says_held : (l : Literal Var) → Memᴰ l P → Says T K l
    unfolding row_of place_of
    says_held l m = let r = held l m in subst (λ (v : Var). Says T K (literal l.sign v)) (sym r.2) r.3

    -- what is forced is known
    says_forced : (l : Literal Var) → ForcedBy T P l → Says T K l
    says_forced l f = forced_least says_held says_closed f

    -- and is of a variable of the table
    forced_variable : (l : Literal Var) → ForcedBy T P l → Memᴰ l.var (variables T)
    forced_variable l (given p) = let r = held l p in subst (λ (v : Var). Memᴰ v (variables T)) (sym r.2)
        (step_variable T r.0 r.1)
    forced_variable l (unit C c m alone) = clause_variables T wf C c l m

  -- The closure of literals of steps that the rows have does not fail, and the rows have each literal of a step in it.
  pub rest_forced : (P : List (Literal Var)) → Held T K P
      → (¬ Fails (clauses T) (λ l. Memᴰ l P))
      × ((j : ℕ) (sign : Bool) → j < length T.steps → ForcedBy T P (literal sign (step j))
      → known (K.steps (step_at T j).from) sign (step_at T j).to ≡ true)
  unfolding row_of place_of
  rest_forced P held = (
    λ (l, f, g). not_both l.sign l.var (forced_variable P held l f) (says_forced P held l f)
        (says_forced P held (opposite l) g),
    λ j sign h f. says_forced P held (literal sign (step j)) f,
  )
