-- A set with one member more.
use Prim.Native.Nat.{ℕ, ◌^◌, ◌<◌}
use mathlib.Core.Path.{◌≡◌, refl, sym, ap, ◌∙◌}
use mathlib.Core.Bool.{Bool, true, false, ◌||◌, and-eq-true_iff, or-eq-true_iff}
use mathlib.Core.Logic.Or
use mathlib.Core.Logic.{◌⊎◌, inl, inr}
use borrow.Author.Tests.{lt-ltb, eq-eqb, eqb-true}
use lib.Dec.{eqb, ltb}
use Rattle.sets.specs.Member.{member, set_of}
use Rattle.sets.proofs.Laws.{member_inside}
use Rattle.sets.proofs.SetOf.{member-set_of}

module _ (w to : ℕ) where
  abbrev pub more : ℕ
  more = set_of 32 (λ t. member w t || eqb t to)

  pub more_only : (t : ℕ) → member more t ≡ true → (member w t ≡ true) ⊎ (t ≡ to)
  more_only t e =
      go (member w t) refl ((and-eq-true_iff (ltb t 32) (member w t || eqb t to)).0 (sym (member-set_of 32 _ t) ∙ e)).1
    where
      go : (b : Bool) → member w t ≡ b → member w t || eqb t to ≡ true → (member w t ≡ true) ⊎ (t ≡ to)
      go true q h = inl q
      go false q h = inr (eqb-true t to (sym (ap (λ (b : Bool). b || eqb t to) q) ∙ h))

  more_has : (t : ℕ) → t < 32 → member w t || eqb t to ≡ true → member more t ≡ true
  more_has t h e = member-set_of 32 _ t ∙ (and-eq-true_iff (ltb t 32) (member w t || eqb t to)).1 (lt-ltb t 32 h, e)

  pub more_keeps : w < 2 ^ 32 → (t : ℕ) → member w t ≡ true → member more t ≡ true
  more_keeps small t e = more_has t (member_inside 32 w t small e) (ap (λ (b : Bool). b || eqb t to) e)

  pub more_new : to < 32 → member more to ≡ true
  more_new h = more_has to h ((or-eq-true_iff (member w to) (eqb to to)).1 (Or.inr (eq-eqb to to refl)))
