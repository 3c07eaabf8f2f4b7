-- Going through the members of a set, the lowest of those left first: fewer are left each time, and the members that
-- have f are collected.
use Prim.Native.Nat.{ℕ, ◌^◌, ◌<◌}
use mathlib.Core.Path.{◌≡◌, refl, sym, ap, ◌∙◌}
use mathlib.Core.Bool.{Bool, true, false, not, ◌&&◌, ◌||◌, and-true}
use native.Mathlib.Omega.{arith}
use borrow.Author.Tests.{eqb-true, eq-eqb}
use lib.Dec.{eqb}
use Rattle.sets.specs.Member.{member, set_of, count_of, lowest_of}
use Rattle.sets.proofs.Laws.{member-zero}
use Rattle.sets.proofs.SetOf.{
  member-set_of-below,
  set_of_cong,
  set_of_unique,
  set_of-lt,
  some_member,
  count_of_less,
  lowest_of-has,
  lowest_of_least,
}

-- a set that is not empty has a lowest member below 32
pub lowest_below : (set : ℕ) → set < 2 ^ 32 → ¬ (set ≡ 0) → lowest_of 32 (member set) < 32
lowest_below set small d =
    let m = some_member 32 set small d in
    let l = lowest_of_least 32 (member set) m.0 m.2 in
    omega (arith, m.1, l)

-- the set without s
abbrev pub others : ℕ → ℕ → ℕ
others left s = set_of 32 (λ t. member left t && not (eqb t s))

-- What is left of a set on the way, and the next member of it.
pub record Left (set left : ℕ) : Type 0 where
  pub small : left < 2 ^ 32
  pub inside : (t : ℕ) → t < 32 → member left t ≡ true → member set t ≡ true

pub left_first : (set : ℕ) → set < 2 ^ 32 → Left set set
left_first set small = record { small = small; inside = λ t h e. e }

module _ (set left s : ℕ) (l : Left set left) (some : ¬ (left ≡ 0)) (low : s ≡ lowest_of 32 (member left)) where
  pub next_below : s < 32
  next_below = rw low (lowest_below left l.small some)

  pub next_left : member left s ≡ true
  next_left = rw low (lowest_of-has 32 (member left) (lowest_below left l.small some))

  pub next_inside : member set s ≡ true
  next_inside = l.inside s next_below next_left

  at_others : (t : ℕ) → t < 32 → member (others left s) t ≡ member left t && not (eqb t s)
  at_others t h = member-set_of-below 32 (λ t. member left t && not (eqb t s)) t h

  -- what is left then was left before
  was_left : (t : ℕ) → t < 32 → member (others left s) t ≡ true → member left t ≡ true
  was_left t h e = stays (member left t) refl (sym (at_others t h) ∙ e)
    where
      stays : (b : Bool) → member left t ≡ b → b && not (eqb t s) ≡ true → member left t ≡ true
      stays true p q = p
      stays false p q = p ∙ q

  pub left_next : Left set (others left s)
  left_next = record { small = set_of-lt 32 _; inside = λ t h e. l.inside t h (was_left t h e) }

  -- one member fewer is left
  pub left_fewer : count_of 32 (member (others left s)) < count_of 32 (member left)
  left_fewer = count_of_less (member left) (member (others left s)) 32 was_left s next_below next_left
      (at_others s next_below ∙ ap (λ (b : Bool). member left s && not b) (eq-eqb s s refl) ∙ gone (member left s))
    where
      gone : (b : Bool) → b && false ≡ false
      gone true = refl
      gone false = refl

  -- the members gone through that have f, and then with the next one
  pub collect_next : (f : ℕ → Bool) (m : ℕ) (b : Bool)
      → m ≡ set_of 32 (λ t. (member set t && not (member left t)) && f t) → b ≡ f s
      → set_of 32 (λ t. member m t || (b && eqb t s))
      ≡ set_of 32 (λ t. (member set t && not (member (others left s) t)) && f t)
  collect_next f m b e p = set_of_cong 32 _ _ (λ t h.
      (λ i. ((ap (λ (w : ℕ). member w t) e ∙ member-set_of-below 32 _ t h) i) || (p i && eqb t s))
      ∙ at t (eqb t s) refl
      ∙ ap (λ (x : Bool). (member set t && not x) && f t) (sym (at_others t h)))
    where
      plain : (x y z w : Bool) → ((x && not y) && z) || (w && false) ≡ (x && not (y && true)) && z
      plain true true z true = refl
      plain true true z false = refl
      plain true false true w = refl
      plain true false false true = refl
      plain true false false false = refl
      plain false y z true = refl
      plain false y z false = refl

      here : (z : Bool) → ((true && not true) && z) || (z && true) ≡ (true && not (true && false)) && z
      here true = refl
      here false = refl

      at : (t : ℕ) (q : Bool) → eqb t s ≡ q
          → ((member set t && not (member left t)) && f t) || (f s && q)
          ≡ (member set t && not (member left t && not q)) && f t
      at t false d = plain (member set t) (member left t) (f t) (f s)
      at t true d =
          let e : t ≡ s = eqb-true t s d in
          rw e ((λ i. ((next_inside i && not (next_left i)) && f s) || (f s && true))
          ∙ here (f s)
          ∙ sym (λ i. (next_inside i && not (next_left i && false)) && f s))

-- none is left
pub collect_last : (set left : ℕ) (f : ℕ → Bool) → left ≡ 0
    → set_of 32 (λ t. (member set t && not (member left t)) && f t) ≡ set_of 32 (λ t. member set t && f t)
collect_last set left f e = set_of_cong 32 _ _ (λ t h.
    ap (λ (b : Bool). (member set t && not b) && f t) (ap (λ (w : ℕ). member w t) e ∙ member-zero t)
    ∙ ap (λ (b : Bool). b && f t) (and-true (member set t)))

-- none is gone through yet
pub collect_first : (set : ℕ) (f : ℕ → Bool) → 0 ≡ set_of 32 (λ t. (member set t && not (member set t)) && f t)
collect_first set f = set_of_unique 32 _ 0 (omega arith) (λ t h. member-zero t ∙ sym (none (member set t) (f t)))
  where
    none : (b c : Bool) → (b && not b) && c ≡ false
    none true c = refl
    none false c = refl
