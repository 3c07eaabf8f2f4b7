-- Collecting the states that have f, one after the other: the set of those below i, and then of those below i + 1.
use Prim.Native.Nat.{ℕ, ◌+◌, ◌^◌, ◌<◌}
use mathlib.Core.Path.{◌≡◌, refl, sym, ap, ◌∙◌}
use mathlib.Core.Bool.{Bool, true, false, cond, ◌&&◌, ◌||◌, or-false}
use native.Mathlib.Decide.{ℕ_discrete, dec_lt}
use native.Mathlib.Nat.{add-zero, lt_of_lt_of_le}
use native.Mathlib.Numerals.{add-one}
use native.Mathlib.Omega.{arith}
use borrow.Author.Tests.{lt-ltb, le-ltb, eq-eqb, ne_eqb}
use lib.Dec.{eqb, ltb}
use lib.Pow.{pow_mono}
use Rattle.sets.specs.Member.{member, set_of}
use Rattle.sets.proofs.SetOf.{member-set_of, set_of_cong, set_of-lt, set_of-member, set_of_unique}

-- a state without f adds nothing
pub collect_out : (i : ℕ) (f : ℕ → Bool) → f i ≡ false → set_of i f ≡ set_of (i + 1) f
unfolding set_of
collect_out i f e = sym (rw (add-one i) (ap (λ (b : Bool). set_of i f + cond b (2 ^ i) 0) e ∙ add-zero (set_of i f)))

-- a state with f is put into the set
pub collect_in : (i : ℕ) (f : ℕ → Bool) → i < 32 → f i ≡ true
    → set_of 32 (λ t. member (set_of i f) t || eqb t i) ≡ set_of (i + 1) f
collect_in i f h e = sym (set_of_unique 32 _ (set_of (i + 1) f) small same)
  where
    small : set_of (i + 1) f < 2 ^ 32
    small = lt_of_lt_of_le (set_of-lt (i + 1) f) (pow_mono {i = i + 1} {j = 32} (omega arith))

    at_state : (s : ℕ) → Dec (s ≡ i) → (ltb s (i + 1) && f s) ≡ ((ltb s i && f s) || eqb s i)
    at_state s (yes p) = rw p (
        simp (lt-ltb i (i + 1) (omega arith), le-ltb i i (omega arith), eq-eqb i i refl) e)
    at_state s (no d) = other (dec_lt s i)
      where
        other : Dec (s < i) → (ltb s (i + 1) && f s) ≡ ((ltb s i && f s) || eqb s i)
        other (yes l) = simp (lt-ltb s (i + 1) (omega arith), lt-ltb s i l, ne_eqb s i d) (sym (or-false (f s)))
        other (no l) = simp (le-ltb s (i + 1) (omega (arith, d, l)), le-ltb s i (omega (arith, l)), ne_eqb s i d)

    same : (s : ℕ) → s < 32 → member (set_of (i + 1) f) s ≡ (member (set_of i f) s || eqb s i)
    same s l =
        member-set_of (i + 1) f s ∙ at_state s (ℕ_discrete s i)
        ∙ ap (λ (b : Bool). b || eqb s i) (sym (member-set_of i f s))

-- one state after the other, each with the test's answer
pub collect : (i : ℕ) (f : ℕ → Bool) (m : ℕ) (b : Bool) → i < 32 → m ≡ set_of i f → b ≡ f i
    → set_of 32 (λ t. member m t || (b && eqb t i)) ≡ set_of (i + 1) f
collect i f m true h e p =
    ap (λ (k : ℕ). set_of 32 (λ t. member k t || eqb t i)) e
    ∙ collect_in i f h (sym p)
collect i f m false h e p =
    set_of_cong 32 _ _ (λ t l. or-false (member m t))
    ∙ set_of-member 32 m (rw e (lt_of_lt_of_le (set_of-lt i f) (pow_mono {i = i} {j = 32} (omega arith))))
    ∙ e
    ∙ collect_out i f (sym p)
