-- Lists of literals whose variables are numbers: what P must be for its closure to be computed.
use Rattle.std.specs.Prelude.{ℕ, ◌<◌}
use mathlib.Core.List.{List, Memᴰ}
use Rattle.circuit.specs.Logic.{Literal, opposite}

-- the literals of a list
abbrev pub Given : List (Literal ℕ) → Literal ℕ → Type 0
Given P l = Memᴰ l P

-- the literals are of variables below size
abbrev pub VariablesBelow : ℕ → List (Literal ℕ) → Type 0
VariablesBelow size P = (l : Literal ℕ) → Memᴰ l P → l.var < size

-- the literals of each clause are of variables below size
abbrev pub ClausesBelow : ℕ → List (List (Literal ℕ)) → Type 0
ClausesBelow size F = (C : List (Literal ℕ)) → Memᴰ C F → VariablesBelow size C

-- no two of the literals contradict each other
abbrev pub Consistent : List (Literal ℕ) → Type 0
Consistent P = (l : Literal ℕ) → Memᴰ l P → ¬ Memᴰ (opposite l) P
