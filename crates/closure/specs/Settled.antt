-- How many steps a closure settles, and 0 where it fails. Specification, "Closure".
use Rattle.std.specs.Prelude.{ℕ, ◌<◌, ◌≡◌, Bool, true, ◌↔◌, length}
use mathlib.Core.List.{List, Memᴰ}
use Rattle.sets.specs.Member.{count_of}
use Rattle.table.specs.Table.{Table}
use Rattle.circuit.specs.Logic.{Literal}
use Rattle.circuit.specs.Variables.{Var, step}
use Rattle.circuit.specs.Clauses.{clauses}
use Rattle.closure.specs.Closure.{Forced, Fails}

-- so many of the numbers below e have Q: a test tells which they are, and so many pass it
abbrev pub HowMany : ℕ → (ℕ → Type 0) → ℕ → Type 0
HowMany e Q count = (test : ℕ → Bool) × ((j : ℕ) → j < e → (test j ≡ true) ↔ Q j) × (count ≡ count_of e test)

module _ {Var : Type 0} (F : List (List (Literal Var))) (P : Literal Var → Type 0) where
  -- the closure of P settles a variable: it holds a literal of it
  abbrev pub Settles : Var → Type 0
  Settles v = (sign : Bool) × Forced F P (record { sign = sign; var = v })

  -- how many it settles of e variables, 0 where it fails
  pub record CountsSettled (variable : ℕ → Var) (e count : ℕ) : Type 0 where
    pub failed : Fails F P → count ≡ 0
    pub counted : ¬ Fails F P → HowMany e (λ j. Settles (variable j)) count

-- of the steps of a table
abbrev pub SettledCount : Table → List (Literal Var) → ℕ → Type 0
SettledCount T P count = CountsSettled (clauses T) (λ l. Memᴰ l P) step (length T.steps) count
