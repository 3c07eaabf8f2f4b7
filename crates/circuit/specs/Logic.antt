-- Literals, clauses and gates over any variables; the clauses of a gate. Specification, "Net".
use Rattle.std.specs.Prelude.{Bool, true, false, not, ◌≡◌}
use mathlib.Core.List.{List, [], ◌∷◌, ◌++◌, map, Memᴰ}

-- a variable, or its opposite
pub record Literal (Var : Type 0) : Type 0 where
  pub sign : Bool
  pub var : Var

module _ {Var : Type 0} where
  abbrev pub pos : Var → Literal Var
  pos v = record { sign = true; var = v }

  abbrev pub neg : Var → Literal Var
  neg v = record { sign = false; var = v }

  abbrev pub opposite : Literal Var → Literal Var
  opposite l = record { sign = not l.sign; var = l.var }

-- an AND gate or an OR gate of its inputs
pub data Gate (Var : Type 0) : Type 0 where
  all any : List (Literal Var) → Gate Var

-- Of an AND gate g of l1 .. lk: (not g, li) for each i, and (g, not l1, .., not lk). An OR gate is its dual: (g, not
-- li) for each i, and (not g, l1, .., lk). With no inputs the long clause alone stands.
module _ {Var : Type 0} where
  unfoldable pub gate_clauses : Var → Gate Var → List (List (Literal Var))
  gate_clauses g (all ls) = map (λ l. neg g ∷ l ∷ []) ls ++ ((pos g ∷ map opposite ls) ∷ [])
  gate_clauses g (any ls) = map (λ l. pos g ∷ opposite l ∷ []) ls ++ ((neg g ∷ ls) ∷ [])

  -- an assignment makes a literal true, a clause (some literal true), a list of clauses (each true)
  abbrev pub Makes : (Var → Bool) → Literal Var → Type 0
  Makes α l = α l.var ≡ l.sign

  abbrev pub Satisfies : (Var → Bool) → List (List (Literal Var)) → Type 0
  Satisfies α F = (C : List (Literal Var)) → Memᴰ C F → (l : Literal Var) × Memᴰ l C × Makes α l
