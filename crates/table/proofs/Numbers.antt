-- Small facts on numbers and tests that the proofs of this crate share.
use Prim.Native.Nat.{ℕ, suc, ◌/◌, ◌^◌, ◌≤◌, ◌<◌}
use mathlib.Core.Path.{◌≡◌, sym, subst, ◌∙◌}
use native.Mathlib.Decide.{ℕ_discrete, dec_lt}
use native.Mathlib.Nat.{div-eq_of_lt, le-div_iff_mul-le}
use native.Mathlib.Omega.{arith}
use borrow.Author.Tests.{lt-ltb, le-ltb, eq-eqb, ne_eqb}
use lib.Dec.{eqb, ltb}
use lib.Pow.{pow_pos}

-- what holds of a and of the next number holds of every number from a to there
pub two : (P : ℕ → Type 0) (a k : ℕ) → a ≤ k → k < suc (suc a) → P a → P (suc a) → P k
two P a k low high pa pb =
    elim (ℕ_discrete a k) [ yes e ↦ subst P e pa | no d ↦ (let e : suc a ≡ k = omega (arith, d) in subst P e pb) ]

-- and the same of four numbers
pub four : (P : ℕ → Type 0) (a k : ℕ) → a ≤ k → k < suc (suc (suc (suc a))) → P a → P (suc a) → P (suc (suc a))
    → P (suc (suc (suc a))) → P k
four P a k low high pa pb pc pd =
    elim (dec_lt k (suc (suc a))) [
      | yes h ↦ two P a k low h pa pb
      | no d ↦ two P (suc (suc a)) k
          (omega (arith, d)) high pc pd
    ]

-- two numbers neither of which is less are the same
pub neither_less : (i j : ℕ) → ¬ (i < j) → ¬ (j < i) → i ≡ j
neither_less i j p q = omega (arith, p, q)

-- a number shifted right by p is 0 exactly when it is below 2 ^ p
pub shifted_out : (x p : ℕ) → eqb (x / 2 ^ p) 0 ≡ ltb x (2 ^ p)
shifted_out x p =
    elim (dec_lt x (2 ^ p)) [
      | yes h ↦ eq-eqb (x / 2 ^ p) 0 (div-eq_of_lt h) ∙ sym (lt-ltb x (2 ^ p) h)
      | no h ↦ (let some : 1 ≤ x / 2 ^ p = (le-div_iff_mul-le (pow_pos p)).1 (omega (arith, h)) in
          ne_eqb (x / 2 ^ p) 0 (λ e. omega arith) ∙ sym (le-ltb x (2 ^ p) (omega (arith, h))))
    ]
