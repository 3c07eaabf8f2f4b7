-- The variable of X of a node: its row is the node's, also where it is that of the last level, and it is no other
-- kind of variable.
use Prim.Native.Nat.{ℕ, ◌<◌}
use mathlib.Core.Path.{◌≡◌, refl, sym, ap, ◌∙◌}
use mathlib.Core.Bool.{Bool, true, false, true≢false}
use lib.ListN.{length}
use Rattle.table.specs.Table.{Table}
use Rattle.circuit.specs.Variables.{Var, step, kept, node, edge, ahead, inner, level, value, literal}
use Rattle.circuit.proofs.Distinct.{node_of}
use Rattle.circuit.proofs.Value.{value_cases}
use Rattle.rows.specs.Row.{turn}
use Rattle.closure.specs.Knowledge.{Knowledge}
use Rattle.closure.specs.Rest.{Rest}
use Rattle.closure.proofs.Says.{row_of, place_of, Is}

-- whether a variable may be that of X
abbrev pub is_value : Var → Bool
is_value (step j) = false
is_value (kept s) = false
is_value (node i s) = true
is_value (edge i m j) = false
is_value (ahead i m s) = false
is_value (inner i m s) = false
is_value (level i m s) = true

module _ (T : Table) where
  value_kind : (i s : ℕ) → is_value (value T i s) ≡ true
  value_kind i s = value_cases T (λ v. is_value v ≡ true) i s refl (λ fam q a b e. refl)

  value_node : (i s : ℕ) → node_of (value T i s) ≡ i
  value_node i s = value_cases T (λ v. node_of v ≡ i) i s refl (λ fam q a b e. refl)

  -- a variable of another kind is not X
  pub value_other : (i s : ℕ) (v : Var) → is_value v ≡ false → ¬ (value T i s ≡ v)
  value_other i s v k e = true≢false (sym (value_kind i s) ∙ ap is_value e ∙ k)

  -- X of two nodes differ
  pub value_apart : (a b s : ℕ) → ¬ (a ≡ b) → ¬ (value T a s ≡ value T b s)
  value_apart a b s d e = d (sym (value_node a s) ∙ ap node_of e ∙ value_node b s)

  -- X at s stands at s
  pub value_place : (i s : ℕ) → place_of T (value T i s) ≡ s
  unfolding place_of
  value_place i s = value_cases T (λ v. place_of T v ≡ s) i s refl (λ fam q a b e. refl)

  module _ (K : Knowledge) where
    pub value_row : Rest T K → (i : ℕ) → i < length T.nodes → (s : ℕ) → row_of T K (value T i s) ≡ K.nodes i
    unfolding row_of
    value_row rest i h s =
        value_cases T (λ v. row_of T K v ≡ K.nodes i) i s refl (λ fam q a b e. rest.last i fam q a b h e)

    -- a literal of X has the node's row, or its dual
    pub value_is : Rest T K → (i : ℕ) → i < length T.nodes → (sign : Bool) (s : ℕ)
        → Is T K (literal sign (value T i s)) (turn sign (K.nodes i)) s
    value_is rest i h sign s = record { row_is = ap (turn sign) (value_row rest i h s); place_is = value_place i s }
