-- One step of the search, its two choices taken apart.
use Prim.Native.Nat.{ℕ, suc}
use mathlib.Core.Path.{◌≡◌}
use mathlib.Core.Bool.{Bool, true, false}
use mathlib.Core.List.{List, ◌∷◌}
use Rattle.circuit.specs.Logic.{Literal, pos, neg}
use Rattle.closure.specs.Computed.{Marks, mark_at, is_known, Progress, clash, marked}
use Rattle.search.specs.Search.{Best, Walked, passed, cut, choose, walk}

-- `pursue`, given what the closure of P is, and whether its price undercuts
abbrev pub pursued : Progress → (Marks → Bool) → List (Literal ℕ) → Best → ℕ
    → (List (Literal ℕ) → Marks → Best → ℕ → Walked) → Walked
pursued p cheap P best count onward = elim p [
  | clash ↦ passed best count
  | marked m new ↦ elim (cheap m) [ true ↦ onward P m best count | false ↦ passed best count ]
]

-- `choose`, given besides whether it stops
abbrev pub chosen : Bool → Progress → (Marks → Bool) → List (Literal ℕ) → Best → ℕ
    → (List (Literal ℕ) → Marks → Best → ℕ → Walked) → Walked
chosen stop p cheap Q best count onward = elim stop [
  | true ↦ cut count
  | false ↦ pursued p cheap Q best (suc count) onward
]

-- what comes after the first part, where the cap was not reached
abbrev pub and_then : Walked → (Best → ℕ → Walked) → Walked
and_then w more = elim w [ passed b c ↦ more b c | cut c ↦ cut c ]

module _ (at_cap : ℕ → Bool) (close : List (Literal ℕ) → Progress) (price : Marks → ℕ)
    (j : ℕ) (js : List ℕ) (P : List (Literal ℕ)) (m : Marks) (best : Best) (count : ℕ) where
  -- a settled step is passed
  pub walk_known : is_known (mark_at m j) ≡ true
      → walk at_cap close price (j ∷ js) P m best count ≡ walk at_cap close price js P m best count
  unfolding walk
  walk_known e = rw (e, walk)

  -- an unsettled step is chosen kept and then struck
  pub walk_unknown : is_known (mark_at m j) ≡ false
      → walk at_cap close price (j ∷ js) P m best count
      ≡ and_then (choose at_cap close price (pos j) P best count (walk at_cap close price js))
      (λ b c. choose at_cap close price (neg j) P b c (walk at_cap close price js))
  unfolding walk
  walk_unknown e = rw (e, walk)
