-- The walk from the lowest unsettled step: settled steps are passed, and a step is chosen.
use Prim.Native.Nat.{ℕ, zero, suc, ◌+◌, ◌≤◌, ◌<◌}
use native.Mathlib.Numerals.{add-one}
use native.Mathlib.Omega.{arith}
use mathlib.Core.Path.{◌≡◌, refl, sym, ap, ◌∙◌}
use mathlib.Core.Bool.{Bool, true, false}
use mathlib.Core.List.{List, [], ◌∷◌}
use lib.Dec.{eqb}
use lib.ListN.{length, drop_of_length-le}
use lib.Seq.{drop-cons}
use Rattle.table.specs.Table.{Table}
use Rattle.ctl.specs.Range.{below}
use Rattle.ctl.proofs.Tabulate.{length_tabulate, get_d_tabulate}
use Rattle.circuit.specs.Logic.{Literal}
use Rattle.closure.specs.Computed.{Marks, mark_at, is_known, Progress, clash, marked}
use Rattle.search.specs.Search.{Best, find, undercuts, Walked, passed, cut, capped, choose, walk}
use Rattle.search.specs.TableSearch.{mark_price}
use Rattle.search.specs.Fine.{closure_of}
use Rattle.walk.specs.Stands.{steps_from, walk_from, search_from, try_from}
use Rattle.search.proofs.Step.{pursued, chosen, and_then, walk_known, walk_unknown}

module _ (T : Table) where
  -- the steps from j on: j, and those after it
  steps_cons : (j : ℕ) → j < length T.steps → steps_from T j ≡ j ∷ steps_from T (suc j)
  steps_cons j h =
      drop-cons (below (length T.steps)) j 0 (rw length_tabulate h)
      ∙ ap (λ (k : ℕ). k ∷ steps_from T (suc j)) (get_d_tabulate (length T.steps) (λ k. k) j 0 h)

  -- none are left past the last
  steps_none : steps_from T (length T.steps) ≡ []
  steps_none = drop_of_length-le (below (length T.steps)) {i = length T.steps} (rw length_tabulate (omega arith))

  module _ (cap : ℕ) (P : List (Literal ℕ)) (m : Marks) (best : Best) (made : ℕ) where
    -- settled steps are passed
    pass : (k : ℕ) → k ≤ length T.steps → ((i : ℕ) → i < k → is_known (mark_at m i) ≡ true)
        → walk_from T cap 0 P m best made ≡ walk_from T cap k P m best made
    pass zero h settled = refl
    pass (suc k) h settled =
        pass k (omega arith) (λ i l. settled i (omega arith))
        ∙ ap (λ (js : List ℕ). walk (capped cap) (closure_of T) (mark_price T) js P m best made) (steps_cons k h)
        ∙ walk_known (capped cap) (closure_of T) (mark_price T) k (steps_from T (suc k)) P m best made
        (settled k (omega arith))

    pub walk_passed : (i k : ℕ) → i ≤ k → k ≤ length T.steps → ((x : ℕ) → x < k → is_known (mark_at m x) ≡ true)
        → walk_from T cap i P m best made ≡ walk_from T cap k P m best made
    walk_passed i k l h settled = sym (pass i (omega arith) (λ x lt. settled x (omega arith))) ∙ pass k h settled

    -- where all are settled, m is found
    pub walk_settled : (i : ℕ) → i ≤ length T.steps → ((x : ℕ) → x < length T.steps → is_known (mark_at m x) ≡ true)
        → walk_from T cap i P m best made ≡ passed (find m (mark_price T m)) made
    unfolding walk
    walk_settled i h settled =
        walk_passed i (length T.steps) h (omega arith) settled
        ∙ ap (λ (js : List ℕ). walk (capped cap) (closure_of T) (mark_price T) js P m best made) steps_none

    -- an unsettled step is chosen kept and then struck
    pub walk_unsettled : (j : ℕ) → j < length T.steps → is_known (mark_at m j) ≡ false
        → walk_from T cap j P m best made ≡ and_then (try_from T true cap j P best made) (try_from T false cap j P)
    walk_unsettled j h unsettled_at =
        ap (λ (js : List ℕ). walk (capped cap) (closure_of T) (mark_price T) js P m best made) (steps_cons j h)
        ∙ walk_unknown (capped cap) (closure_of T) (mark_price T) j (steps_from T (suc j)) P m best made unsettled_at

  -- what is searched from P, once its closure and its price are known
  module _ (cap j : ℕ) (P : List (Literal ℕ)) (best : Best) (made : ℕ) where
    by_closure : Progress → Walked
    by_closure p = pursued p (λ m. undercuts (mark_price T m) best) P best made (walk_from T cap j)

    by_price : Marks → Bool → Walked
    by_price m cheap = elim cheap [ true ↦ walk_from T cap j P m best made | false ↦ passed best made ]

    pub search_clash : closure_of T P ≡ clash → search_from T cap j P best made ≡ passed best made
    unfolding by_closure
    search_clash e = ap by_closure e

    pub search_dear : {m : Marks} {new : Bool} → closure_of T P ≡ marked m new
        → undercuts (mark_price T m) best ≡ false → search_from T cap j P best made ≡ passed best made
    unfolding by_closure by_price
    search_dear {m} e dear = ap by_closure e ∙ ap (by_price m) dear

    pub search_marked : {m : Marks} {new : Bool} → closure_of T P ≡ marked m new
        → undercuts (mark_price T m) best ≡ true → search_from T cap j P best made ≡ walk_from T cap j P m best made
    unfolding by_closure by_price
    search_marked {m} e cheap = ap by_closure e ∙ ap (by_price m) cheap

  -- a choice at the cap, and below it
  module _ (cap j : ℕ) (l : Literal ℕ) (P : List (Literal ℕ)) (best : Best) (made : ℕ) where
    by_count : Bool → Walked
    by_count stop =
        chosen stop (closure_of T (l ∷ P)) (λ m. undercuts (mark_price T m) best) (l ∷ P) best made (walk_from T cap j)

    pub choose_capped : eqb made cap ≡ true
        → choose (capped cap) (closure_of T) (mark_price T) l P best made (walk_from T cap j) ≡ cut made
    unfolding by_count
    choose_capped e = ap by_count e

    pub choose_next : eqb made cap ≡ false
        → choose (capped cap) (closure_of T) (mark_price T) l P best made (walk_from T cap j)
        ≡ search_from T cap j (l ∷ P) best (made + 1)
    unfolding by_count
    choose_next e = ap by_count e ∙ ap (search_from T cap j (l ∷ P) best) (sym (add-one made))
