-- The search: choices of the lowest unsettled step, kept and then struck, counted and cut at a cap, for the cheapest
-- find. Specification, "Search".
use Rattle.std.specs.Prelude.{ℕ, suc, Bool, true, false, List, [], ◌∷◌, eqb, ltb, length}
use Rattle.circuit.specs.Logic.{Literal, pos, neg}
use Rattle.closure.specs.Computed.{Marks, mark_at, is_known, Progress, clash, marked, settled_below}

-- the cheapest find so far: none, or the marks of a closure that settles every step, and their price
pub data Best : Type 0 where
  unfound : Best
  find : Marks → ℕ → Best

-- whether marks of this price may still lead to a cheaper find
abbrev pub undercuts : ℕ → Best → Bool
undercuts price unfound = true
undercuts price (find m least) = ltb price least

-- where a part of the search has ended: all of it failed or was found, with the cheapest find and the choices made by
-- then; or at the cap
pub data Walked : Type 0 where
  passed : Best → ℕ → Walked
  cut : ℕ → Walked

-- the answer: what is found, with its price; none or spent. Each has the choices made and how many steps the closure
-- of nothing settles
pub data Outcome : Type 0 where
  found : Marks → ℕ → ℕ → ℕ → Outcome
  none spent : ℕ → ℕ → Outcome

-- once all is tried the cheapest find is the answer, or none where there is no find
abbrev pub outcome_of : ℕ → Walked → Outcome
outcome_of settled (passed unfound c) = none c settled
outcome_of settled (passed (find m price) c) = found m price c settled
outcome_of settled (cut c) = spent c settled

-- whether no further choice may be made at this count: at the cap, or never
abbrev pub capped : ℕ → ℕ → Bool
capped cap count = eqb count cap

abbrev pub uncapped : ℕ → Bool
uncapped count = false

-- P is chosen: failed where its closure fails, or where its struck steps cost at least as much as the cheapest find;
-- else go on. `price` is what the steps cost that marks have as struck.
module _ (close : List (Literal ℕ) → Progress) (price : Marks → ℕ) where
  abbrev pub pursue : List (Literal ℕ) → Best → ℕ → (List (Literal ℕ) → Marks → Best → ℕ → Walked) → Walked
  pursue P best count onward = elim (close P) [
    | clash ↦ passed best count
    | marked m new ↦ elim (undercuts (price m) best) [ true ↦ onward P m best count | false ↦ passed best count ]
  ]

module _ (at_cap : ℕ → Bool) (close : List (Literal ℕ) → Progress) (price : Marks → ℕ) where
  -- choose a literal on top of P, where the count is below the cap
  abbrev pub choose : Literal ℕ → List (Literal ℕ) → Best → ℕ → (List (Literal ℕ) → Marks → Best → ℕ → Walked) → Walked
  choose l P best count onward = elim (at_cap count) [
    | true ↦ cut count
    | false ↦ pursue close price (l ∷ P) best (suc count) onward
  ]

  -- The steps not yet passed, lowest first; m is the closure of P. Where all are passed, m is a find, and cheaper
  -- than those before. A settled step is passed; an unsettled one is chosen kept and then, whether or not that led to
  -- a find, struck. Once it is chosen, every step up to it is settled for good.
  unfoldable pub walk : List ℕ → List (Literal ℕ) → Marks → Best → ℕ → Walked
  walk [] P m best count = passed (find m (price m)) count
  walk (j ∷ js) P m best count = elim (is_known (mark_at m j)) [
    | true ↦ walk js P m best count
    | false ↦ elim (choose (pos j) P best count (walk js)) [
      | passed best' c ↦ choose (neg j) P best' c (walk js)
      | cut c ↦ cut c
    ]
  ]

  -- all that is tried from nothing chosen: the steps are settled in this order
  abbrev pub walk_all : List ℕ → Walked
  walk_all steps = pursue close price [] unfound 0 (walk steps)

  -- the search; the steps are the variables below their number
  unfoldable pub search : List ℕ → Outcome
  search steps = outcome_of (settled_below (length steps) (close [])) (walk_all steps)
