-- Given literals of variables below a size, no two of which contradict each other: their marks hold them and no other
-- literal.
use Prim.Native.Nat.{ℕ, zero, suc}
use native.Mathlib.Decide.{ℕ_discrete}
use mathlib.Core.Path.{◌≡◌, refl, sym, subst, ◌∙◌}
use mathlib.Core.Logic.{◌⊎◌, inl, inr, ⊎_elim}
use mathlib.Core.List.Memᴰ
use mathlib.Core.List.{List, [], ◌∷◌, Memᴰ}
use lib.ListN.{length, replicate, length-set, length-replicate}
use lib.Seq.{get_or-set_other}
use Rattle.circuit.specs.Logic.{Literal, opposite}
use Rattle.closure.specs.Computed.{Marks, unknown, known, mark_at, holding, marks_of}
use Rattle.closure.specs.Given.{VariablesBelow, Consistent}
use Rattle.closure.proofs.Forced.{one_of_both}
use Rattle.closure.proofs.Marks.{Holds, literal_path, holds_known, holding-has, holding-only}

-- literals below size stay so with the first dropped
pub within_tail : {size : ℕ} {x : Literal ℕ} {P : List (Literal ℕ)} → VariablesBelow size (x ∷ P)
    → VariablesBelow size P
within_tail within k h = within k (Memᴰ.tail h)

-- consistent literals stay so with the first dropped
pub consistent_tail : {x : Literal ℕ} {P : List (Literal ℕ)} → Consistent (x ∷ P) → Consistent P
consistent_tail consistent k h o = consistent k (Memᴰ.tail h) (Memᴰ.tail o)

-- ---- their marks

-- a mark for each variable
pub given_length : (size : ℕ) (P : List (Literal ℕ)) → length (marks_of size P) ≡ size
unfolding marks_of
given_length size [] = length-replicate size unknown
given_length size (l ∷ P) = length-set (marks_of size P) l.var (known l.sign) ∙ given_length size P

all_unknown : (size v : ℕ) → mark_at (replicate size unknown) v ≡ unknown
all_unknown zero v = refl
all_unknown (suc size) zero = refl
all_unknown (suc size) (suc v) = all_unknown size v

-- they hold no literal that is not given
pub given_only : (size : ℕ) (P : List (Literal ℕ)) (l : Literal ℕ) → Holds (marks_of size P) l → Memᴰ l P
unfolding marks_of
given_only size [] l h = absurd (holds_known (replicate size unknown) l h (all_unknown size l.var))
given_only size (x ∷ P) l h =
    ⊎_elim Memᴰ.head (λ h'. Memᴰ.tail (given_only size P l h')) (holding-only (marks_of size P) x l h)

opposite_or_same : (k l : Literal ℕ) → k.var ≡ l.var → (k ≡ l) ⊎ (opposite k ≡ l)
opposite_or_same k l e = ⊎_elim
    (λ s. inl (literal_path k l (sym s) e))
    (λ s. inr (literal_path (opposite k) l (sym s) e))
    (one_of_both l.sign k.sign)

-- they hold each given literal
pub given_held : (size : ℕ) (P : List (Literal ℕ)) → VariablesBelow size P → Consistent P → (l : Literal ℕ) → Memᴰ l P
    → Holds (marks_of size P) l
unfolding marks_of
given_held size [] within consistent l m = absurd (Memᴰ.not-nil m)
given_held size (x ∷ P) within consistent l m = ⊎_elim here
    (λ n. there (given_held size P (within_tail within) (consistent_tail consistent) l n) (ℕ_discrete l.var x.var))
    (Memᴰ.cases_cons m)
  where
    more : Marks
    more = holding (marks_of size P) x

    here : l ≡ x → Holds more l
    here e = subst (Holds more) (sym e) (holding-has (marks_of size P) x (rw given_length (within x (Memᴰ.head refl))))

    there : Holds (marks_of size P) l → Dec (l.var ≡ x.var) → Holds more l
    there h (yes e) = ⊎_elim here (λ o. absurd (consistent l m (Memᴰ.head o))) (opposite_or_same l x e)
    there h (no d) = get_or-set_other (marks_of size P) x.var l.var (known x.sign) unknown d ∙ h
