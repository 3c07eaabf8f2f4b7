-- A repair that agrees with literals is a model above them: it has each bit that their closure knows, and none agrees
-- where they clash.
use Prim.Native.Nat.{ℕ, zero, suc, ◌≤◌, ◌<◌}
use native.Mathlib.Omega.{arith}
use mathlib.Core.Path.{◌≡◌, refl, sym, ap, ◌∙◌}
use mathlib.Core.Bool.{Bool, true, false, cond}
use mathlib.Core.List.{List}
use lib.Dec.{eqb}
use lib.ListN.{length, get_or}
use Rattle.table.specs.Table.{Table}
use Rattle.table.specs.Facts.{Wellformed}
use Rattle.ctl.specs.Kept.{Repair}
use Rattle.circuit.specs.Logic.{Literal, Makes, Satisfies}
use Rattle.circuit.specs.Variables.{Var}
use Rattle.circuit.proofs.Distinct.{step_first}
use Rattle.circuit.proofs.Models.{repair_is_model}
use Rattle.closure.specs.Closure.{Forced, Fails}
use Rattle.closure.specs.Numbered.{numbered_clauses}
use Rattle.closure.specs.Given.{Given, VariablesBelow}
use Rattle.closure.proofs.Forced.{forced_sound, fails_no_model}
use Rattle.search.proofs.Agree.{AgreesAll}
use Rattle.closure.proofs.Models.{on_numbers, model_numbered}

-- ---- bits

-- a sign is whether its bit is 1
pub bit_sign : (s : Bool) → eqb (cond s 1 0) 1 ≡ s
bit_sign true = refl
bit_sign false = refl

-- a bit is that of whether it is 1
sign_bit : (b : ℕ) → b ≤ 1 → b ≡ cond (eqb b 1) 1 0
sign_bit zero h = refl
sign_bit (suc zero) h = refl
sign_bit (suc (suc b)) h = absurd (omega arith)

-- ---- the model of a repair

module _ (T : Table) (wf : Wellformed T) (P : List (Literal ℕ)) (within : VariablesBelow (length T.steps) P)
    (list : List ℕ) (repair : Repair T list) (agrees : AgreesAll list P) where
  α : Var → Bool
  α = (repair_is_model T wf list repair).0

  β : ℕ → Bool
  β = on_numbers T α

  satisfied : Satisfies β (numbered_clauses T)
  unfolding α β
  satisfied = model_numbered T wf α (repair_is_model T wf list repair).2

  -- it says of each step whether the repair keeps it
  says : (j : ℕ) → j < length T.steps → β j ≡ eqb (get_or list j 0) 1
  unfolding α β
  says j h = ap α (step_first T j h) ∙ (repair_is_model T wf list repair).1 j h

  above : (l : Literal ℕ) → Given P l → Makes β l
  above l i = says l.var (within l i) ∙ ap (λ (b : ℕ). eqb b 1) (agrees l i) ∙ bit_sign l.sign

  -- the closure of what the repair agrees with does not fail
  pub repair_no_fail : ¬ Fails (numbered_clauses T) (Given P)
  repair_no_fail = fails_no_model β satisfied above

  -- the repair has the bit of each forced literal of a step
  pub repair_forced : (j : ℕ) (x : Bool) → j < length T.steps
      → Forced (numbered_clauses T) (Given P) (record { sign = x; var = j })
      → get_or list j 0 ≡ cond x 1 0
  repair_forced j x h f =
      let sign : eqb (get_or list j 0) 1 ≡ x = sym (says j h) ∙ forced_sound β satisfied above f in
      sign_bit (get_or list j 0) (repair.form.bits j (omega (arith, repair.form.size)))
      ∙ ap (λ (b : Bool). cond b 1 0) sign
