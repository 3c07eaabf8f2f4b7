-- Forced by variables and forced by numbers: of literals of steps the same is forced, and the same fails.
use Prim.Native.Nat.{ℕ, ◌<◌}
use native.Mathlib.Omega.{arith}
use mathlib.Core.Path.{◌≡◌, sym, ap, subst, ◌∙◌}
use mathlib.Core.Logic.{◌↔◌}
use mathlib.Core.List.Memᴰ
use mathlib.Core.List.{List, map, Memᴰ}
use lib.ListN.{length}
use Rattle.table.specs.Table.{Table}
use Rattle.table.specs.Facts.{Wellformed}
use Rattle.circuit.specs.Logic.{Literal, opposite}
use Rattle.circuit.specs.Variables.{Var, step, variables, variable_count, literal}
use Rattle.circuit.specs.Clauses.{clauses}
use Rattle.circuit.proofs.Lists.{each_map}
use Rattle.circuit.proofs.Outputs.{step_variable}
use Rattle.circuit.proofs.Covered.{clause_variables}
use Rattle.circuit.proofs.Settled.{UnitClosed}
use Rattle.closure.specs.Closure.{Forced, given, unit, Fails}
use Rattle.closure.specs.Numbered.{numbered_literal, numbered_clauses}
use Rattle.closure.specs.Advance.{ForcedBy}
use Rattle.closure.specs.Given.{Given, VariablesBelow}
use Rattle.closure.proofs.Forced.{forced_least}
use Rattle.closure.proofs.Places.{place_step, place_injective, steps_fit}
use Rattle.search.specs.Fine.{Fine, step_literals}

-- the numbered literal is in S
abbrev pub ByNumber : Table → (Literal ℕ → Type 0) → Literal Var → Type 0
ByNumber T S l = S (numbered_literal T l)

-- what the numbered clauses force is closed under the unit rule for the clauses
pub forced_numbered : (T : Table) (P : Literal ℕ → Type 0)
    → UnitClosed (clauses T) (ByNumber T (Forced (numbered_clauses T) P))
unfolding numbered_clauses
forced_numbered T P C c l h alone =
    unit (map (numbered_literal T) C) (Memᴰ.map (map (numbered_literal T)) c) (Memᴰ.map (numbered_literal T) h)
    (each_map (λ k. ¬ (k ≡ numbered_literal T l) → Forced (numbered_clauses T) P (opposite k)) (numbered_literal T) C
    (λ k m other. alone k m (λ e. other (ap (numbered_literal T) e))))

module _ (T : Table) where
  -- literals of steps are of variables
  pub fine_within : {P : List (Literal ℕ)} → Fine (length T.steps) P → VariablesBelow (variable_count T) P
  fine_within fine l h = omega (arith, fine.within l h, steps_fit T)

  -- a literal of a step has the step's number
  step_number : (l : Literal ℕ) → l.var < length T.steps → numbered_literal T (literal l.sign (step l.var)) ≡ l
  step_number l h = λ i. record { sign = l.sign; var = place_step T l.var h i }

  -- literals of variables of the table with the same number are equal
  same_number : (k l : Literal Var) → Memᴰ k.var (variables T) → Memᴰ l.var (variables T)
      → numbered_literal T k ≡ numbered_literal T l → k ≡ l
  same_number k l i j e = λ x. record {
    sign = (e x).sign;
    var = place_injective i j (ap (λ (n : Literal ℕ). n.var) e) x;
  }

module _ (T : Table) (wf : Wellformed T) (P : List (Literal ℕ)) (within : VariablesBelow (length T.steps) P) where
  -- forced by variables, so by numbers
  to_number : {l : Literal Var} → ForcedBy T (step_literals P) l → ByNumber T (Forced (numbered_clauses T) (Given P)) l
  to_number = forced_least start (forced_numbered T (Given P))
    where
      start : (l : Literal Var) → Memᴰ l (step_literals P) → ByNumber T (Forced (numbered_clauses T) (Given P)) l
      start l m =
          let r = Memᴰ.of_map (λ (k : Literal ℕ). literal k.sign (step k.var)) P m in
          subst (ByNumber T (Forced (numbered_clauses T) (Given P))) r.2
          (subst (Forced (numbered_clauses T) (Given P)) (sym (step_number T r.0 (within r.0 r.1))) (given r.1))

  -- a numbered literal is that of a literal forced by variables
  abbrev Back : Literal ℕ → Type 0
  Back k = (l : Literal Var) × Memᴰ l.var (variables T) × (numbered_literal T l ≡ k) × ForcedBy T (step_literals P) l

  -- of a variable of the table it is that very literal
  back_same : (l : Literal Var) → Memᴰ l.var (variables T) → Back (numbered_literal T l)
      → ForcedBy T (step_literals P) l
  back_same l i r = subst (ForcedBy T (step_literals P)) (same_number T r.0 l r.1 i r.2) r.3

  -- forced by numbers, so by variables
  from_number : {k : Literal ℕ} → Forced (numbered_clauses T) (Given P) k → Back k
  unfolding numbered_clauses
  from_number = forced_least start closed
    where
      start : (k : Literal ℕ) → Memᴰ k P → Back k
      start k m =
          let h = within k m in (
            literal k.sign (step k.var),
            step_variable T k.var h,
            step_number T k h,
            given (Memᴰ.map (λ (k : Literal ℕ). literal k.sign (step k.var)) m),
          )

      closed : (D : List (Literal ℕ)) → Memᴰ D (map (map (numbered_literal T)) (clauses T)) → (k : Literal ℕ) → Memᴰ k D
          → ((j : Literal ℕ) → Memᴰ j D → ¬ (j ≡ k) → Back (opposite j)) → Back k
      closed D d k i alone =
          let r = Memᴰ.of_map (map (numbered_literal T)) (clauses T) d in
          let s = Memᴰ.of_map (numbered_literal T) r.0 (subst (Memᴰ k) (sym r.2) i) in
          let variable : (l : Literal Var) → Memᴰ l r.0 → Memᴰ l.var (variables T) = clause_variables T wf r.0 r.1 in (
            s.0,
            variable s.0 s.1,
            s.2,
            unit r.0 r.1 s.1 (λ l m other.
                back_same (opposite l) (variable l m)
                (alone (numbered_literal T l)
                (subst (Memᴰ (numbered_literal T l)) r.2 (Memᴰ.map (numbered_literal T) m))
                (λ e. other (same_number T l s.0 (variable l m) (variable s.0 s.1) (e ∙ sym s.2))))),
          )

  -- of a step the same literals are forced
  pub steps_same : (l : Literal ℕ) → l.var < length T.steps
      → ForcedBy T (step_literals P) (literal l.sign (step l.var)) ↔ Forced (numbered_clauses T) (Given P) l
  steps_same l h = (
    λ f. subst (Forced (numbered_clauses T) (Given P)) (step_number T l h) (to_number f),
    λ f. back_same (literal l.sign (step l.var)) (step_variable T l.var h)
        (subst Back (sym (step_number T l h)) (from_number f)),
  )

  -- both fail or neither
  pub fails_same : Fails (clauses T) (λ l. Memᴰ l (step_literals P)) ↔ Fails (numbered_clauses T) (Given P)
  fails_same = (λ f. (numbered_literal T f.0, to_number f.1, to_number f.2), λ f. back f (from_number f.1))
    where
      back : (f : Fails (numbered_clauses T) (Given P)) → Back f.0 → Fails (clauses T) (λ l. Memᴰ l (step_literals P))
      back f (l, i, e, forced) = (
        l,
        forced,
        back_same (opposite l) i
            (from_number (subst (λ (k : Literal ℕ). Forced (numbered_clauses T) (Given P) (opposite k)) (sym e) f.2)),
      )
