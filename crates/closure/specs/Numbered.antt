-- The clauses of a table with each variable as its number, its place in `variables`; step j has number j.
use Rattle.std.specs.Prelude.{ℕ, suc, Bool, true, false, cond, List, [], ◌∷◌, map, eqb}
use Rattle.table.specs.Table.{Table}
use Rattle.circuit.specs.Logic.{Literal}
use Rattle.circuit.specs.Variables.{Var, step, kept, node, edge, ahead, inner, level, variables}
use Rattle.circuit.specs.Clauses.{clauses}

-- a variable as a list of numbers, to compare by
abbrev pub code : Var → List ℕ
code (step j) = 0 ∷ j ∷ []
code (kept s) = 1 ∷ s ∷ []
code (node i s) = 2 ∷ i ∷ s ∷ []
code (edge i m j) = 3 ∷ i ∷ m ∷ j ∷ []
code (ahead i m s) = 4 ∷ i ∷ m ∷ s ∷ []
code (inner i m s) = 5 ∷ i ∷ m ∷ s ∷ []
code (level i m s) = 6 ∷ i ∷ m ∷ s ∷ []

unfoldable pub same_code : List ℕ → List ℕ → Bool
same_code [] [] = true
same_code [] (y ∷ ys) = false
same_code (x ∷ xs) [] = false
same_code (x ∷ xs) (y ∷ ys) = cond (eqb x y) (same_code xs ys) false

-- the place of a variable in a list
unfoldable pub place : Var → List Var → ℕ
place v [] = 0
place v (w ∷ ws) = elim (same_code (code v) (code w)) [ true ↦ 0 | false ↦ suc (place v ws) ]

module _ (T : Table) where
  abbrev pub numbered_literal : Literal Var → Literal ℕ
  numbered_literal l = record { sign = l.sign; var = place l.var (variables T) }

  unfoldable pub numbered_clauses : List (List (Literal ℕ))
  numbered_clauses = map (map numbered_literal) (clauses T)
