-- What the closure promises: the forced literals are the smallest set that holds what is given and is closed under the
-- unit rule, and what is computed has just these.
use Rattle.std.specs.Prelude.{ℕ, ◌≤◌, ◌<◌, ◌≡◌, Bool, true, ◌↔◌}
use mathlib.Core.List.{List, Memᴰ}
use Rattle.circuit.specs.Logic.{Literal, opposite}
use Rattle.circuit.specs.Variables.{Var}
use Rattle.closure.specs.Closure.{Forced, Fails}
use Rattle.closure.specs.Computed.{known, Marks, mark_at, clash, marked, closure, settled_below}
use Rattle.closure.specs.Given.{Given, VariablesBelow, ClausesBelow, Consistent}
use Rattle.closure.specs.Settled.{CountsSettled}

-- Q has each literal of a clause all of whose other literals it contradicts
abbrev pub ClosedUnder : List (List (Literal Var)) → (Literal Var → Bool) → Type 0
ClosedUnder F Q =
    (C : List (Literal Var)) → Memᴰ C F → (l : Literal Var) → Memᴰ l C
    → ((k : Literal Var) → Memᴰ k C → ¬ (k ≡ l) → Q (opposite k) ≡ true) → Q l ≡ true

-- of clauses F and given literals P
pub record ForcedIsSmallest (F : List (List (Literal Var))) (P : List (Literal Var)) : Type 0 where
  -- what is given is forced,
  pub has_given : (l : Literal Var) → Memᴰ l P → Forced F (λ k. Memᴰ k P) l
  -- the forced literals are closed under the unit rule,
  pub is_closed : (C : List (Literal Var)) → Memᴰ C F → (l : Literal Var) → Memᴰ l C
      → ((k : Literal Var) → Memᴰ k C → ¬ (k ≡ l) → Forced F (λ k. Memᴰ k P) (opposite k)) → Forced F (λ k. Memᴰ k P) l
  -- and each set that has what is given and is closed under the rule has them all
  pub is_least : (Q : Literal Var → Bool) → ((l : Literal Var) → Memᴰ l P → Q l ≡ true) → ClosedUnder F Q
      → (l : Literal Var) → Forced F (λ k. Memᴰ k P) l → Q l ≡ true

abbrev pub ForcedIsTheSmallest : Type 0
ForcedIsTheSmallest = (F : List (List (Literal Var))) (P : List (Literal Var)) → ForcedIsSmallest F P

-- the closure as it is computed, of clauses over the numbers below size
pub record ComputedIsForced (size : ℕ) (F : List (List (Literal ℕ))) (P : List (Literal ℕ)) : Type 0 where
  -- it clashes exactly where a literal and its opposite are forced
  pub fails : (closure size F P ≡ clash) ↔ Fails F (Given P)
  -- else its marks are the forced literals
  pub holds : (m : Marks) (new : Bool) → closure size F P ≡ marked m new → (l : Literal ℕ) → l.var < size
      → (mark_at m l.var ≡ known l.sign) ↔ Forced F (Given P) l
  -- and the number of settled variables is that of the forced literals, and no other is
  pub counts : (e : ℕ) → e ≤ size → CountsSettled F (Given P) (λ j. j) e (settled_below e (closure size F P))
  pub counts_alone : (e : ℕ) → e ≤ size → (count : ℕ) → CountsSettled F (Given P) (λ j. j) e count
      → count ≡ settled_below e (closure size F P)

abbrev pub ComputedIsTheForced : Type 0
ComputedIsTheForced =
    (size : ℕ) (F : List (List (Literal ℕ))) (P : List (Literal ℕ)) → ClausesBelow size F → Consistent P
    → VariablesBelow size P
    → ComputedIsForced size F P
