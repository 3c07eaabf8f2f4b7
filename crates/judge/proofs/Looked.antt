-- The least set that has the starts and, with a state, its next states grows state by state.
use Prim.Native.Nat.{ℕ, ◌^◌, ◌<◌}
use mathlib.Core.Path.{◌≡◌, refl, sym, ap, ap₂, ◌∙◌}
use mathlib.Core.Bool.{Bool, true, false, not, ◌&&◌, ◌||◌, true≢false}
use mathlib.Core.Logic.{◌↔◌, ◌⊎◌, inl, inr, ⊎_elim}
use mathlib.Core.List.{List}
use native.Mathlib.Decide.{ℕ_discrete}
use borrow.Author.Tests.{eq-eqb, ne_eqb, not-true}
use lib.Dec.{eqb}
use lib.ListN.{get_or}
use Rattle.sets.specs.Member.{member, set_of, count_of, lowest_of}
use Rattle.sets.proofs.Laws.{member-zero, member_inside}
use Rattle.sets.proofs.SetOf.{in_set, set_of-lt, count_of_less, lowest_of-has}
use Rattle.table.proofs.Bools.{and_parts, parts_and, or_parts, or_left, or_right, not_so}
use Rattle.sets.proofs.Walk.{lowest_below}
use Rattle.judge.specs.Reached.{ClosedUnderNext, Least}

-- some states are reached, and of some of these the next states are still left to add
pub record Looked (rows : List ℕ) (starts reached left : ℕ) : Type 0 where
  pub small : reached < 2 ^ 32
  pub left_small : left < 2 ^ 32
  pub begins : (s : ℕ) → member starts s ≡ true → member reached s ≡ true
  pub inside : (s : ℕ) → member left s ≡ true → member reached s ≡ true
  pub goes_on : (s t : ℕ) → t < 32 → member reached s ≡ true → member left s ≡ false → member (get_or rows s 0) t ≡ true
      → member reached t ≡ true
  pub least : (Y : ℕ) → ClosedUnderNext rows starts Y → (s : ℕ) → member reached s ≡ true → member Y s ≡ true

pub looked_first : (rows : List ℕ) (starts : ℕ) → starts < 2 ^ 32 → Looked rows starts starts starts
looked_first rows starts small = record {
  small = small;
  left_small = small;
  begins = λ s e. e;
  inside = λ s e. e;
  goes_on = λ s t l e f. absurd (true≢false (sym e ∙ f));
  least = λ Y c s e. c.begins s e;
}

-- nothing is left
pub looked_last : (rows : List ℕ) (starts reached left : ℕ) → Looked rows starts reached left → left ≡ 0
    → Least rows starts reached
looked_last rows starts reached left k e = record {
  small = k.small;
  closed = record {
    begins = k.begins;
    goes_on = λ s t l m. k.goes_on s t l m (ap (λ (w : ℕ). member w s) e ∙ member-zero s);
  };
  least = k.least;
}

-- the states that are not looked at yet: not reached, or left
abbrev unlooked : ℕ → ℕ → ℕ → Bool
unlooked reached left s = not (member reached s) || member left s

abbrev pub to_look : ℕ → ℕ → ℕ
to_look reached left = count_of 32 (unlooked reached left)

-- the next states of s that are not reached yet, what is reached with them, and what is left without s and with them
abbrev added : List ℕ → ℕ → ℕ → ℕ
added rows reached s = set_of 32 (λ t. member (get_or rows s 0) t && not (member reached t))

abbrev with : ℕ → ℕ → ℕ
with a b = set_of 32 (λ t. member a t || member b t)

abbrev without : ℕ → ℕ → ℕ
without left s = set_of 32 (λ t. member left t && not (eqb t s))

module _ (rows : List ℕ) (starts reached left s : ℕ) (k : Looked rows starts reached left) (h : s < 32)
    (here : member left s ≡ true) where
  abbrev new : ℕ
  new = added rows reached s

  in_new : (t : ℕ)
      → (member new t ≡ true) ↔ ((t < 32) × (member (get_or rows s 0) t ≡ true) × (member reached t ≡ false))
  in_new t = (
    λ e. let r = (in_set 32 _ t).0 e in let p = and_parts (member (get_or rows s 0) t) _ r.1 in
        (r.0, p.0, not-true _ p.1),
    λ r. (in_set 32 _ t).1 (r.0, parts_and (member (get_or rows s 0) t) _ r.1 (ap not r.2)),
  )

  in_with : (a b t : ℕ) → member (with a b) t ≡ true → (member a t ≡ true) ⊎ (member b t ≡ true)
  in_with a b t e = or_parts (member a t) (member b t) ((in_set 32 _ t).0 e).1

  with_left : (a b t : ℕ) → t < 32 → member a t ≡ true → member (with a b) t ≡ true
  with_left a b t l e = (in_set 32 _ t).1 (l, or_left (member a t) (member b t) e)

  with_right : (a b t : ℕ) → t < 32 → member b t ≡ true → member (with a b) t ≡ true
  with_right a b t l e = (in_set 32 _ t).1 (l, or_right (member a t) (member b t) e)

  -- what was reached still is
  still : (t : ℕ) → member reached t ≡ true → member (with reached new) t ≡ true
  still t e = with_left reached new t (member_inside 32 reached t k.small e) e

  in_without : (t : ℕ) → member (without left s) t ≡ true → (member left t ≡ true) × ¬ (t ≡ s)
  in_without t e =
      let p = and_parts (member left t) _ ((in_set 32 _ t).0 e).1 in
      (p.0, λ q. true≢false (sym (eq-eqb t s q) ∙ not-true _ p.1))

  without_in : (t : ℕ) → member left t ≡ true → ¬ (t ≡ s) → member (without left s) t ≡ true
  without_in t e d =
      (in_set 32 _ t).1 (member_inside 32 left t k.left_small e, parts_and (member left t) _ e (ap not (ne_eqb t s d)))

  -- a state that is reached now, of which nothing is left, was reached, and nothing was left of it but of s
  looked_at : (u : ℕ) → member (with reached new) u ≡ true → member (with (without left s) new) u ≡ false
      → (member reached u ≡ true) × ((member left u ≡ false) ⊎ (u ≡ s))
  looked_at u e f =
      ⊎_elim (λ r. (r, go (member left u) refl (ℕ_discrete u s)))
      (λ n. absurd (true≢false (sym (with_right _ new u ((in_new u).0 n).0 n) ∙ f))) (in_with reached new u e)
    where
      go : (b : Bool) → member left u ≡ b → Dec (u ≡ s) → (member left u ≡ false) ⊎ (u ≡ s)
      go false q d = inl q
      go true q (yes same) = inr same
      go true q (no d) =
          absurd (true≢false (sym (with_left (without left s) new u (member_inside 32 left u k.left_small q)
          (without_in u q d)) ∙ f))

  -- the next states of s are added, and s is looked at
  looked_next : Looked rows starts (with reached new) (with (without left s) new)
  looked_next = record {
    small = set_of-lt 32 _;
    left_small = set_of-lt 32 _;
    begins = λ t e. still t (k.begins t e);
    inside = λ t e. ⊎_elim (λ w. still t (k.inside t (in_without t w).0))
        (λ n. with_right reached new t ((in_new t).0 n).0 n) (in_with (without left s) new t e);
    goes_on = λ u t l e f row. let r = looked_at u e f in
        ⊎_elim (λ q. still t (k.goes_on u t l r.0 q row)) (λ same. go t l (rw same at row) (member reached t) refl) r.1;
    least = λ Y c t e. ⊎_elim (k.least Y c t)
        (λ n. let r = (in_new t).0 n in c.goes_on s t r.0 (k.least Y c s (k.inside s here)) r.1)
        (in_with reached new t e);
  }
    where
      go : (t : ℕ) → t < 32 → member (get_or rows s 0) t ≡ true → (b : Bool) → member reached t ≡ b
          → member (with reached new) t ≡ true
      go t l row true q = still t q
      go t l row false q = with_right reached new t l ((in_new t).1 (l, row, q))

  -- one state less is to be looked at
  looked_less : to_look (with reached new) (with (without left s) new) < to_look reached left
  looked_less =
      count_of_less (unlooked reached left) (unlooked (with reached new) (with (without left s) new)) 32 sub s h
      (or_right (not (member reached s)) (member left s) here) gone
    where
      sub : (t : ℕ) → t < 32 → unlooked (with reached new) (with (without left s) new) t ≡ true
          → unlooked reached left t ≡ true
      sub t l e = ⊎_elim
          (λ q. or_left (not (member reached t)) (member left t)
          (ap not (not_so (member reached t) (λ r. true≢false (sym (still t r) ∙ not-true _ q)))))
          (λ q. ⊎_elim (λ w. or_right (not (member reached t)) (member left t) (in_without t w).0)
          (λ n. or_left (not (member reached t)) (member left t) (ap not ((in_new t).0 n).2))
          (in_with (without left s) new t q))
          (or_parts (not (member (with reached new) t)) _ e)

      gone : unlooked (with reached new) (with (without left s) new) s ≡ false
      gone = not_so _ (λ e. ⊎_elim
          (λ q. true≢false (sym (still s (k.inside s here)) ∙ not-true _ q))
          (λ q. ⊎_elim (λ w. (in_without s w).1 refl) (λ n. true≢false (sym (k.inside s here) ∙ ((in_new s).0 n).2))
          (in_with (without left s) new s q))
          (or_parts (not (member (with reached new) s)) _ e))

-- a turn of the loop, by what its calls give: the lowest state left is looked at
pub looked_turn : (rows : List ℕ) (starts reached left : ℕ) → Looked rows starts reached left → ¬ (left ≡ 0)
    → (s n r w l : ℕ) → s ≡ lowest_of 32 (member left)
    → n ≡ added rows reached s → r ≡ with reached n → w ≡ without left s → l ≡ with w n
    → Looked rows starts r l × (to_look r l < to_look reached left)
looked_turn rows starts reached left k d s n r w l s-is n-is r-is w-is l-is =
    let low = lowest_below left k.left_small d in
    let h : s < 32 = rw s-is low in
    let here : member left s ≡ true = ap (member left) s-is ∙ lowest_of-has 32 (member left) low in
    let r_all : r ≡ with reached (added rows reached s) = r-is ∙ ap (with reached) n-is in
    let l_all : l ≡ with (without left s) (added rows reached s) = l-is ∙ ap₂ with w-is n-is in
    rw (r_all, l_all) (looked_next rows starts reached left s k h here, looked_less rows starts reached left s k h here)
