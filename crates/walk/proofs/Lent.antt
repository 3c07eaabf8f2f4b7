-- The words that each try of a step is lent. The kept one goes on from a copy of the words of the levels, or from
-- themselves where there is no room for one; the struck one from these as they were, or from words of 0.
use Prim.Native.Nat.{ℕ, ◌-◌, ◌≤◌, ◌<◌}
use native.Mathlib.Omega.{arith}
use mathlib.Core.Path.{◌≡◌, refl, sym, ap, subst, ◌∙◌}
use mathlib.Core.Bool.{Bool, true, false, cond}
use mathlib.Core.List.{List, ◌++◌}
use borrow.Author.Tests.{ltb-false, lt-ltb, le-ltb}
use lib.Dec.{ltb}
use lib.ListN.{
  length,
  get_or,
  take,
  drop,
  replicate,
  length-append,
  length-drop,
  length-replicate,
  take-append-drop,
  get_or-append,
}
use lib.Seq.{length-take-le, take_all, get_or-drop}
use Rattle.table.specs.Table.{Table}
use Rattle.circuit.specs.Logic.{Literal}
use Rattle.circuit.specs.Variables.{Var}
use Rattle.propagate.specs.Memory.{memory}
use Rattle.closure.specs.Knowledge.{level_total}
use Rattle.closure.specs.Closes.{Between}
use Rattle.walk.specs.KeptWords.{Keeps}
use Rattle.walk.specs.Stands.{Resting}
use Rattle.walk.proofs.Zeroed.{zeroed_between}
use Rattle.walk.proofs.SameWords.{words_between, words_rest}

-- the part from a place on, and the whole when it comes back
abbrev part_from : ℕ → List ℕ → List ℕ
part_from from words = take (length words - from) (drop from words)

abbrev pub whole_with : ℕ → List ℕ → List ℕ → List ℕ
whole_with from words after = take from words ++ (after ++ drop (length words - from) (drop from words))

-- what the struck try is lent, when it came back as `after`
abbrev pub left_words : ℕ → ℕ → List ℕ → List ℕ → List ℕ
left_words levels from words after =
    cond (ltb from levels) (replicate (length (whole_with from words after)) 0) (whole_with from words after)

-- by the way that it came there: filled with 0, or not
pub left_zeroed : {levels from : ℕ} (mid after : List ℕ) {rest zeros : List ℕ} → rest ≡ zeros
    → zeros ≡ replicate (length (whole_with from mid after)) 0 → from < levels → rest ≡ left_words levels from mid after
left_zeroed {levels} {from} mid after is zeroed h =
    is ∙ zeroed ∙ sym (ap (λ (b : Bool). cond b (replicate (length (whole_with from mid after)) 0)
    (whole_with from mid after)) (lt-ltb from levels h))

pub left_whole : {levels from : ℕ} (mid after : List ℕ) {rest : List ℕ} → rest ≡ whole_with from mid after
    → levels ≤ from → rest ≡ left_words levels from mid after
left_whole {levels} {from} mid after is h =
    is ∙ sym (ap (λ (b : Bool). cond b (replicate (length (whole_with from mid after)) 0) (whole_with from mid after))
    (le-ltb from levels h))

module _ {levels room : ℕ} {words mid : List ℕ} {from : ℕ} (keeps : Keeps levels room words mid from) where
  pub part_start : from ≤ length mid
  part_start = omega (arith, keeps.room_left, keeps.size)

  part_all : part_from from mid ≡ drop from mid
  part_all = take_all (length mid - from) (drop from mid) (omega (arith, length-drop from mid))

  pub part_long : room ≤ length (take (length mid - from) (drop from mid))
  part_long = omega (arith, ap length part_all, length-drop from mid, keeps.room_left, keeps.size)

  part_agrees : (k : ℕ) → k < levels → get_or (part_from from mid) k 0 ≡ get_or words k 0
  part_agrees k h = ap (λ (xs : List ℕ). get_or xs k 0) part_all ∙ get_or-drop from mid k 0 ∙ keeps.copy k h

  module _ (after : List ℕ) (size : length after ≡ length (take (length mid - from) (drop from mid))) where
    pub whole_length : length (take from mid ++ (after ++ drop (length mid - from) (drop from mid))) ≡ length words
    whole_length = omega (
      arith,
      length-append (take from mid) (after ++ drop (length mid - from) (drop from mid)),
      length-append after (drop (length mid - from) (drop from mid)),
      length-take-le from mid part_start,
      length-drop (length mid - from) (drop from mid),
      length-drop from mid,
      size,
      ap length part_all,
      part_start,
      keeps.size,
    )

    front_stays : (k : ℕ) → k < from → get_or (whole_with from mid after) k 0 ≡ get_or words k 0
    front_stays k h =
        let inside : k < length (take from mid) = omega (arith, h, length-take-le from mid part_start) in
        get_or-append (take from mid) _ 0 k inside
        ∙ sym (get_or-append (take from mid) (drop from mid) 0 k inside)
        ∙ ap (λ (xs : List ℕ). get_or xs k 0) (take-append-drop from mid)
        ∙ keeps.stays k h

    -- what the struck try is lent
    left : Bool → List ℕ
    left fresh = cond fresh (replicate (length (whole_with from mid after)) 0) (whole_with from mid after)

    left_size : (fresh : Bool) → length (left fresh) ≡ length words
    unfolding left
    left_size true = length-replicate _ _ ∙ whole_length
    left_size false = whole_length

    pub left_length : (rest : List ℕ) → rest ≡ left_words levels from mid after
        → length rest ≡ length words
    unfolding left
    left_length rest e = ap length e ∙ left_size (ltb from levels)

    module _ (T : Table) (rows : List ℕ) (all : levels ≡ level_total T) where
      left_agrees : ltb from levels ≡ false → (k : ℕ) → k < level_total T
          → get_or (whole_with from mid after) k 0 ≡ get_or words k 0
      left_agrees e k h = front_stays k (omega (arith, h, all, ltb-false from levels e))

      left_lies : (fresh : Bool) → ltb from levels ≡ fresh → (Q : List (Literal Var)) → Between T Q (memory rows words)
          → Between T Q (memory rows (left fresh))
      unfolding left
      left_lies true e Q b = zeroed_between T rows words (length (whole_with from mid after)) Q b
      left_lies false e Q b = words_between T rows words (whole_with from mid after) (left_agrees e) Q b

      module _ (rest : List ℕ)
          (is : rest ≡ left_words levels from mid after) where
        pub left_between : (Q : List (Literal Var)) → Between T Q (memory rows words) → Between T Q (memory rows rest)
        unfolding left
        left_between Q b = subst (λ w. Between T Q (memory rows w)) (sym is) (left_lies (ltb from levels) refl Q b)

        pub left_rests : Resting T (memory rows words) → ltb from levels ≡ false → Resting T (memory rows rest)
        left_rests r e =
            let same : rest ≡ whole_with from mid after = is
            ∙ ap (λ (x : Bool). cond x (replicate (length (whole_with from mid after)) 0)
            (whole_with from mid after)) e in
            subst (λ w. Resting T (memory rows w)) (sym same)
            (words_rest T rows words (whole_with from mid after) (left_agrees e) 0 r)

  -- what the kept try is lent
  module _ (T : Table) (rows : List ℕ) (all : levels ≡ level_total T) where
    lent_agrees : (k : ℕ) → k < level_total T → get_or (part_from from mid) k 0 ≡ get_or words k 0
    lent_agrees k h = part_agrees k (omega (arith, h, all))

    pub lent_between : (Q : List (Literal Var)) → Between T Q (memory rows words)
        → Between T Q (memory rows (take (length mid - from) (drop from mid)))
    lent_between = words_between T rows words (part_from from mid) lent_agrees

    pub lent_rests : Resting T (memory rows words) → Resting T (memory rows (take (length mid - from) (drop from mid)))
    lent_rests = words_rest T rows words (part_from from mid) lent_agrees 0
