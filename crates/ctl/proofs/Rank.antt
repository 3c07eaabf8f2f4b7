-- Rank is a strict total order on the kept lists of one length, so a class of them has at most one first list, and at
-- most one cheapest, then first.
use Prim.Native.Nat.{ℕ, zero, suc, ◌≤◌, ◌<◌, zero-le, suc-le-suc}
use mathlib.Core.Path.{◌≡◌, refl, sym, ap, ◌∙◌}
use mathlib.Core.Logic.{◌⊎◌, inl, inr}
use mathlib.Core.List.{List, [], ◌∷◌, List-discrete}
use native.Mathlib.Nat.{suc_inj, suc-ne-zero, not-suc-le-zero}
use native.Mathlib.Decide.{ℕ_discrete, dec_lt}
use native.Mathlib.Omega.{arith}
use lib.ListN.{length, get_or}
use Rattle.ctl.specs.Rank.{RanksBefore, First, Cheapest}

-- every entry is 0 or 1
abbrev pub Bits : List ℕ → Type 0
Bits l = (j : ℕ) → j < length l → get_or l j 0 ≤ 1

-- no list ranks before itself
pub irreflexive : (l : List ℕ) → ¬ RanksBefore l l
irreflexive l r = omega arith

-- rank carries on: the lower of the two steps at which the lists first differ is that at which the outer two do
pub transitive : (l m k : List ℕ) → length l ≡ length m → RanksBefore l m → RanksBefore m k → RanksBefore l k
transitive l m k same r s = by (dec_lt r.step s.step) (dec_lt s.step r.step)
  where
    by : Dec (r.step < s.step) → Dec (s.step < r.step) → RanksBefore l k
    by (yes h) d =
        record {
          step = r.step;
          inside = r.inside;
          agree = λ j lt. r.agree j lt ∙ s.agree j (omega arith);
          kept = r.kept;
          struck = sym (s.agree r.step h) ∙ r.struck;
        }
    by (no n) (yes h) =
        record {
          step = s.step;
          inside = omega arith;
          agree = λ j lt. r.agree j (omega arith) ∙ s.agree j lt;
          kept = r.agree s.step h ∙ s.kept;
          struck = s.struck;
        }
    by (no n) (no n') =
        let one : r.step ≡ s.step = omega arith in
        absurd (omega (arith, r.struck, s.kept, ap (λ (j : ℕ). get_or m j 0) one))

-- two lists do not rank before each other
pub asymmetric : (l m : List ℕ) → length l ≡ length m → RanksBefore l m → ¬ RanksBefore m l
asymmetric l m same r s = irreflexive l (transitive l m l same r s)

-- an entry more in front, the same in both lists, keeps the rank
before_cons : (x y : ℕ) (l m : List ℕ) → x ≡ y → RanksBefore l m → RanksBefore (x ∷ l) (y ∷ m)
before_cons x y l m e r =
    record {
      step = suc r.step;
      inside = suc-le-suc r.inside;
      agree = agrees;
      kept = r.kept;
      struck = r.struck;
    }
  where
    agrees : (j : ℕ) → j < suc r.step → get_or (x ∷ l) j 0 ≡ get_or (y ∷ m) j 0
    agrees zero h = e
    agrees (suc j) h = r.agree j (omega arith)

-- a list that keeps step 0 ranks before one that strikes it
before_here : (l m : List ℕ) → RanksBefore (1 ∷ l) (0 ∷ m)
before_here l m =
    record {
      step = zero;
      inside = suc-le-suc zero-le;
      agree = λ j h. absurd (not-suc-le-zero h);
      kept = refl;
      struck = refl;
    }

-- of two lists of marks, they are the same or one ranks before the other
pub trichotomy : (l m : List ℕ) → length l ≡ length m → Bits l → Bits m → (l ≡ m) ⊎ (RanksBefore l m ⊎ RanksBefore m l)
trichotomy [] [] same p q = inl refl
trichotomy [] (y ∷ m) same p q = absurd (suc-ne-zero (length m) (sym same))
trichotomy (x ∷ l) [] same p q = absurd (suc-ne-zero (length l) same)
trichotomy (x ∷ l) (y ∷ m) same p q =
    heads x y (p zero (omega arith)) (q zero (omega arith))
    (trichotomy l m (suc_inj same) (λ j h. p (suc j) (omega arith)) (λ j h. q (suc j) (omega arith)))
  where
    tails : (x y : ℕ) → x ≡ y → (l ≡ m) ⊎ (RanksBefore l m ⊎ RanksBefore m l)
        → (x ∷ l ≡ y ∷ m) ⊎ (RanksBefore (x ∷ l) (y ∷ m) ⊎ RanksBefore (y ∷ m) (x ∷ l))
    tails x y e (inl d) = inl (cc)
    tails x y e (inr (inl r)) = inr (inl (before_cons x y l m e r))
    tails x y e (inr (inr r)) = inr (inr (before_cons y x m l (sym e) r))

    heads : (x y : ℕ) → x ≤ 1 → y ≤ 1 → (l ≡ m) ⊎ (RanksBefore l m ⊎ RanksBefore m l)
        → (x ∷ l ≡ y ∷ m) ⊎ (RanksBefore (x ∷ l) (y ∷ m) ⊎ RanksBefore (y ∷ m) (x ∷ l))
    heads zero zero a b t = tails 0 0 refl t
    heads zero (suc zero) a b t = inr (inr (before_here m l))
    heads zero (suc (suc y)) a b t = absurd (omega arith)
    heads (suc zero) zero a b t = inr (inl (before_here l m))
    heads (suc zero) (suc zero) a b t = tails 1 1 refl t
    heads (suc zero) (suc (suc y)) a b t = absurd (omega arith)
    heads (suc (suc x)) y a b t = absurd (omega arith)

-- lists of one length have at most one first among them
pub first_unique : (P : List ℕ → Type 0) (size : (l m : List ℕ) → P l → P m → length l ≡ length m) (l m : List ℕ)
    → First P l → First P m → l ≡ m
first_unique P size l m a b = by (List-discrete ℕ_discrete l m)
  where
    by : Dec (l ≡ m) → l ≡ m
    by (yes e) = e
    by (no n) =
        absurd (asymmetric l m (size l m a.member b.member) (a.before m b.member (λ e. n (sym e)))
        (b.before l a.member n))

-- and so at most one cheapest, then first in rank
pub cheapest_unique : (price : List ℕ → ℕ) (P : List ℕ → Type 0)
    (size : (l m : List ℕ) → P l → P m → length l ≡ length m) (l m : List ℕ)
    → Cheapest price P l → Cheapest price P m → l ≡ m
cheapest_unique price P size l m a b =
    let same : price m ≡ price l = omega (arith, a.lowest m b.first.member.0, b.lowest l a.first.member.0) in
    first_unique (λ k. P k × (price k ≡ price l)) (λ k k' p q. size k k' p.0 q.0) l m a.first
    (record { member = (b.first.member.0, same); before = λ k p other. b.first.before k (p.0, p.1 ∙ sym same) other })
