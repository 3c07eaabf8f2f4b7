-- Marks: the literals that they hold, what one more mark changes, and how many are unknown.
use Prim.Native.Nat.{ℕ, zero, suc, ◌≤◌, ◌<◌, zero-le, suc-le-suc}
use native.Mathlib.Nat.{le_trans, le-suc, not-suc-le-zero, le_of_suc-le-suc}
use native.Mathlib.Decide.{dec_lt, ℕ_discrete}
use native.Mathlib.Omega.{arith}
use mathlib.Core.Path.{◌≡◌, refl, sym, ap, subst, ◌∙◌}
use mathlib.Core.Bool.{Bool, true, false, not, beq, true≢false, false≢true, and-eq-true_iff}
use mathlib.Core.Logic.{◌⊎◌, inl, inr, ◌↔◌}
use mathlib.Core.List.{[], ◌∷◌}
use borrow.Author.Tests.{eqb-true, eq-eqb}
use lib.Dec.{eqb}
use lib.ListN.{length, set}
use lib.Seq.{get_or-set_same, get_or-set_other, set_out}
use Rattle.circuit.specs.Logic.{Literal, opposite}
use Rattle.closure.specs.Computed.{
  Mark,
  unknown,
  known,
  Marks,
  mark_at,
  is_known,
  against,
  contradicted,
  same_literal,
  holding,
}
use Rattle.closure.proofs.Forced.{not_both}

-- the marks have the literal
abbrev pub Holds : Marks → Literal ℕ → Type 0
Holds m l = mark_at m l.var ≡ known l.sign

-- a known mark says what it knows
pub known_of : (m : Mark) → is_known m ≡ true → (x : Bool) × (m ≡ known x)
known_of unknown i = absurd (false≢true i)
known_of (known x) i = (x, refl)

-- ---- literals

-- literals with the same sign and variable are equal
pub literal_path : (k l : Literal ℕ) → k.sign ≡ l.sign → k.var ≡ l.var → k ≡ l
literal_path k l p q = λ i. record { sign = p i; var = q i }

beq_true : (a b : Bool) → beq a b ≡ true → a ≡ b
beq_true true true e = refl
beq_true true false e = absurd (false≢true e)
beq_true false true e = absurd (false≢true e)
beq_true false false e = refl

beq_same : (a : Bool) → beq a a ≡ true
beq_same true = refl
beq_same false = refl

-- the test of two literals is whether they are equal
pub same_literal_lem : (k l : Literal ℕ) → (same_literal k l ≡ true) ↔ (k ≡ l)
same_literal_lem k l = (to, λ p. subst (λ x. same_literal k x ≡ true) p same)
  where
    to : same_literal k l ≡ true → k ≡ l
    to e =
        let r = (and-eq-true_iff (beq k.sign l.sign) (eqb k.var l.var)).0 e in
        literal_path k l (beq_true k.sign l.sign r.0) (eqb-true k.var l.var r.1)

    same : same_literal k k ≡ true
    same = (and-eq-true_iff (beq k.sign k.sign) (eqb k.var k.var)).1 (beq_same k.sign, eq-eqb k.var k.var refl)

-- literals of numbers are equal or not
pub literal_discrete : Discrete (Literal ℕ)
literal_discrete k l = go (same_literal k l) refl
  where
    go : (b : Bool) → same_literal k l ≡ b → Dec (k ≡ l)
    go true e = yes ((same_literal_lem k l).0 e)
    go false e = no (λ p. true≢false (sym ((same_literal_lem k l).1 p) ∙ e))

-- ---- one mark

known-not : (s : Bool) → ¬ (known s ≡ known (not s))
known-not s e = let same : s ≡ not s = cc in not_both refl same

known_unknown : (s : Bool) → ¬ (known s ≡ unknown)
known_unknown s e = let z : ◌≡◌ {A = ℕ} 0 1 = cc in omega arith

-- marks that hold a literal do not hold its opposite
pub holds_once : (m : Marks) (l : Literal ℕ) → Holds m l → ¬ Holds m (opposite l)
holds_once m l p q = known-not l.sign (sym p ∙ q)

-- marks do not hold a literal of an unknown variable
pub holds_known : (m : Marks) (l : Literal ℕ) → Holds m l → ¬ (mark_at m l.var ≡ unknown)
holds_known m l p q = known_unknown l.sign (sym p ∙ q)

against-true : (s : Bool) (x : Mark) → (against s x ≡ true) ↔ (x ≡ known (not s))
against-true s unknown = (λ e. absurd (false≢true e), λ e. absurd (known_unknown (not s) (sym e)))
against-true true (known true) = (λ e. absurd (false≢true e), λ e. absurd (known-not true e))
against-true true (known false) = (λ e. refl, λ e. refl)
against-true false (known true) = (λ e. refl, λ e. refl)
against-true false (known false) = (λ e. absurd (false≢true e), λ e. absurd (known-not false e))

-- a literal is contradicted when its opposite is held
pub contradicted_holds : (m : Marks) (l : Literal ℕ) → (contradicted m l ≡ true) ↔ Holds m (opposite l)
contradicted_holds m l = against-true l.sign (mark_at m l.var)

known_for : (s : Bool) (x : Mark) → against s x ≡ false → is_known x ≡ true → x ≡ known s
known_for s unknown e k = absurd (false≢true k)
known_for true (known true) e k = refl
known_for true (known false) e k = absurd (true≢false e)
known_for false (known true) e k = absurd (true≢false e)
known_for false (known false) e k = refl

-- a literal of a known variable that is not contradicted is held
pub open_known : (m : Marks) (l : Literal ℕ) → contradicted m l ≡ false → is_known (mark_at m l.var) ≡ true → Holds m l
open_known m l = known_for l.sign (mark_at m l.var)

not_known : (x : Mark) → is_known x ≡ false → x ≡ unknown
not_known unknown e = refl
not_known (known b) e = absurd (true≢false e)

-- a mark that is not known is unknown
pub unknown_at : (m : Marks) (v : ℕ) → is_known (mark_at m v) ≡ false → mark_at m v ≡ unknown
unknown_at m v = not_known (mark_at m v)

-- ---- one more mark

-- a mark where there was none keeps what is held
pub holding_keeps : (m : Marks) (l k : Literal ℕ) → mark_at m l.var ≡ unknown → Holds m k → Holds (holding m l) k
holding_keeps m l k free h = get_or-set_other m l.var k.var (known l.sign) unknown other ∙ h
  where
    other : ¬ (k.var ≡ l.var)
    other e = holds_known m k h (ap (mark_at m) e ∙ free)

-- the literal marked is held
pub holding-has : (m : Marks) (l : Literal ℕ) → l.var < length m → Holds (holding m l) l
holding-has m l h = get_or-set_same m l.var (known l.sign) unknown h

-- no other literal is held that was not
pub holding-only : (m : Marks) (l k : Literal ℕ) → Holds (holding m l) k → (k ≡ l) ⊎ Holds m k
holding-only m l k h = go (ℕ_discrete k.var l.var) (dec_lt l.var (length m))
  where
    go : Dec (k.var ≡ l.var) → Dec (l.var < length m) → (k ≡ l) ⊎ Holds m k
    go (yes e) (yes i) =
        let s : known l.sign ≡ known k.sign = sym (holding-has m l i) ∙ ap (mark_at (holding m l)) (sym e) ∙ h in
        inl (literal_path k l (cc) e)
    go (yes e) (no o) = inr (subst (λ x. Holds x k) (set_out m l.var (known l.sign) (omega arith)) h)
    go (no n) d = inr (sym (get_or-set_other m l.var k.var (known l.sign) unknown n) ∙ h)

-- ---- how many are unknown

-- the marks that are unknown, counted
abbrev pub unknowns : Marks → ℕ
unknowns [] = zero
unknowns (unknown ∷ m) = suc (unknowns m)
unknowns (known b ∷ m) = unknowns m

-- at most all are unknown
pub unknowns_le : (m : Marks) → unknowns m ≤ length m
unknowns_le [] = zero-le
unknowns_le (unknown ∷ m) = suc-le-suc (unknowns_le m)
unknowns_le (known b ∷ m) = le_trans (unknowns_le m) (le-suc (length m))

-- a mark where there was none leaves fewer
pub unknowns_fall : (m : Marks) (v : ℕ) (b : Bool) → v < length m → mark_at m v ≡ unknown
    → unknowns (set m v (known b)) < unknowns m
unknowns_fall [] v b h e = absurd (not-suc-le-zero h)
unknowns_fall (unknown ∷ m) zero b h e = omega arith
unknowns_fall (known c ∷ m) zero b h e = absurd (known_unknown c e)
unknowns_fall (unknown ∷ m) (suc v) b h e = suc-le-suc (unknowns_fall m v b (le_of_suc-le-suc h) e)
unknowns_fall (known c ∷ m) (suc v) b h e = unknowns_fall m v b (le_of_suc-le-suc h) e
