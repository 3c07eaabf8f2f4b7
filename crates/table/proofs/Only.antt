-- A state is in a set just when the set meets the set of that state alone.
use Prim.Native.Nat.{ℕ, ◌^◌, ◌<◌}
use mathlib.Core.Path.{◌≡◌, refl, sym, ap, ◌∙◌}
use mathlib.Core.Bool.{Bool, true, false, not, ◌&&◌, ◌||◌, and-false, false≢true}
use native.Mathlib.Decide.{ℕ_discrete, dec_lt}
use native.Mathlib.Omega.{arith}
use borrow.Author.Tests.{eq-eqb, ne_eqb}
use lib.Dec.{eqb}
use Rattle.sets.specs.Member.{member, set_of}
use Rattle.sets.proofs.Laws.{member-zero, member_past}
use Rattle.sets.proofs.SetOf.{set_of-lt, member-set_of-below, empty}

module _ (m p : ℕ) (small : m < 2 ^ 32) (only : ℕ) (only-is : only ≡ set_of 32 (λ t. member 0 t || eqb t p))
    (x : ℕ) (x-is : x ≡ set_of 32 (λ t. member m t && member only t)) where
  -- the members that they share
  shared : (t : ℕ) → t < 32 → member x t ≡ member m t && eqb t p
  shared t h =
      ap (λ (k : ℕ). member k t) x-is
      ∙ member-set_of-below 32 (λ t. member m t && member only t) t h
      ∙ ap (λ (b : Bool). member m t && b) (ap (λ (k : ℕ). member k t) only-is
      ∙ member-set_of-below 32 (λ t. member 0 t || eqb t p) t h
      ∙ ap (λ (b : Bool). b || eqb t p) (member-zero t))

  inside : member m p ≡ true → p < 32
  inside e = elim (dec_lt p 32) [
    | yes h ↦ h
    | no d ↦ absurd
        (false≢true (sym (member_past 32 m p small (omega (arith, d))) ∙ e))
  ]

  -- without p in the set they share none
  none : member m p ≡ false → (t : ℕ) → t < 32 → member x t ≡ false
  none e t h = shared t h ∙ go (ℕ_discrete t p)
    where
      go : Dec (t ≡ p) → member m t && eqb t p ≡ false
      go (yes q) = ap (λ (b : Bool). b && eqb t p) (ap (member m) q ∙ e)
      go (no d) = ap (λ (b : Bool). member m t && b) (ne_eqb t p d) ∙ and-false (member m t)

  pub meets_only : not (eqb x 0) ≡ member m p
  meets_only = go (member m p) refl
    where
      go : (b : Bool) → member m p ≡ b → not (eqb x 0) ≡ b
      go false e = ap not (eq-eqb x 0 (empty 32 x (rw x-is (set_of-lt 32 _)) (none e)))
      go true e =
          ap not (ne_eqb x 0 (λ z. false≢true (sym (member-zero p) ∙ ap (λ (k : ℕ). member k p) (sym z) ∙ there)))
        where
          there : member x p ≡ true
          there = shared p (inside e) ∙ ap (λ (b : Bool). b && eqb p p) e ∙ eq-eqb p p refl
