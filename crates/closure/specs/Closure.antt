-- The closure of a set of literals, as it is defined. Specification, "Closure". Computed.antt has it as a function.
use Rattle.std.specs.Prelude.{◌≡◌}
use mathlib.Core.List.{List, Memᴰ}
use Rattle.circuit.specs.Logic.{Literal, opposite}

-- The smallest set holding P in which, if all of a clause's literals that differ from one of them are contradicted,
-- that one is in. Literals differ by value: one that a clause has twice counts once.
pub data Forced {Var : Type 0} (F : List (List (Literal Var))) (P : Literal Var → Type 0) : Literal Var → Type 0 where
  given : {l : Literal Var} → P l → Forced F P l
  unit : {l : Literal Var} (C : List (Literal Var)) → Memᴰ C F → Memᴰ l C
      → ((k : Literal Var) → Memᴰ k C → ¬ (k ≡ l) → Forced F P (opposite k)) → Forced F P l

-- it fails if it holds a literal and its opposite
abbrev pub Fails : {Var : Type 0} → List (List (Literal Var)) → (Literal Var → Type 0) → Type 0
Fails {Var} F P = (l : Literal Var) × Forced F P l × Forced F P (opposite l)
