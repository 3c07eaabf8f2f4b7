-- Assignments of the variables of a table and of their numbers: the models of the clauses are those of the numbered
-- clauses.
use Prim.Native.Nat.{ℕ}
use mathlib.Core.Path.{ap, sym, subst, ◌∙◌}
use mathlib.Core.Bool.{Bool}
use mathlib.Core.List.Memᴰ
use mathlib.Core.List.{map}
use lib.ListN.{get_or}
use Rattle.table.specs.Table.{Table}
use Rattle.table.specs.Facts.{Wellformed}
use Rattle.circuit.specs.Logic.{Makes, Satisfies}
use Rattle.circuit.specs.Variables.{Var, step, variables}
use Rattle.circuit.specs.Clauses.{clauses}
use Rattle.circuit.proofs.Lists.{each_map}
use Rattle.circuit.proofs.Covered.{clause_variables}
use Rattle.closure.specs.Numbered.{place, numbered_literal, numbered_clauses}
use Rattle.closure.proofs.Places.{place_at}

module _ (T : Table) where
  -- a number has the value of the variable at its place
  abbrev pub on_numbers : (Var → Bool) → ℕ → Bool
  on_numbers α n = α (get_or (variables T) n (step 0))

  -- a variable has the value of its number
  abbrev pub on_variables : (ℕ → Bool) → Var → Bool
  on_variables β v = β (place v (variables T))

  -- a model of the clauses is one of the numbered clauses
  pub model_numbered : Wellformed T → (α : Var → Bool) → Satisfies α (clauses T)
      → Satisfies (on_numbers α) (numbered_clauses T)
  unfolding numbered_clauses
  model_numbered wf α sat = each_map _ (map (numbered_literal T)) (clauses T) (λ C c.
      let r = sat C c in (
        numbered_literal T r.0,
        Memᴰ.map (numbered_literal T) r.1,
        ap α (place_at (clause_variables T wf C c r.0 r.1) (step 0)) ∙ r.2,
      ))

  -- and a model of the numbered clauses one of the clauses
  pub numbered_model : (β : ℕ → Bool) → Satisfies β (numbered_clauses T) → Satisfies (on_variables β) (clauses T)
  unfolding numbered_clauses
  numbered_model β sat C c =
      let r = sat (map (numbered_literal T) C) (Memᴰ.map (map (numbered_literal T)) c) in
      let s = Memᴰ.of_map (numbered_literal T) C r.1 in
      (s.0, s.1, subst (Makes β) (sym s.2) r.2)
