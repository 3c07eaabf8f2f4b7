-- The table of bits of a list of steps, built step by step.
use Prim.Native.Nat.{ℕ, ◌<◌}
use mathlib.Core.Path.{◌≡◌, refl, sym, ap, ◌∙◌}
use mathlib.Core.Bool.{Bool, true, false, not, ◌&&◌, ◌||◌}
use mathlib.Core.List.{List, [], ◌∷◌, ◌++◌}
use native.Mathlib.Decide.{ℕ_discrete}
use borrow.Author.Tests.{lt-ltb, eq-eqb, ne_eqb}
use lib.Dec.{eqb}
use lib.ListN.{get_or, length-set, replicate, get_or-replicate}
use lib.Pow.{pow_pos}
use lib.Seq.{get_or-set_same, get_or-set_other}
use Rattle.sets.specs.Member.{member, set_of}
use Rattle.sets.proofs.Laws.{member-zero}
use Rattle.sets.proofs.SetOf.{member-set_of, set_of-lt}
use Rattle.table.specs.declared.record.Step.{Step}
use Rattle.table.specs.Accept.{any, joins, same_step, distinct}
use Rattle.table.specs.Rows.{Rows, rows_with}
use Rattle.table.proofs.All.{any_append, distinct_snoc}

pub rows_none : Rows (replicate 32 0) []
unfolding any
rows_none = record {
  size = refl;
  words = λ s h. rw (get_or-replicate {A = ℕ} 32 s 0 0 h) (pow_pos 32);
  bits = λ s t hs ht. ap (λ (m : ℕ). member m t) (get_or-replicate 32 s 0 0 hs) ∙ member-zero t;
}

or-false : (b : Bool) → b || false ≡ b
or-false true = refl
or-false false = refl

-- with the step x given too, its bit is set
module _ (rows : List ℕ) (xs : List Step) (g : Rows rows xs) (x : Step) (hf : x.from < 32) (ht : x.to < 32) where
  one_more : (s t : ℕ) → any (joins s t) (xs ++ (x ∷ [])) ≡ any (joins s t) xs || (eqb s x.from && eqb t x.to)
  unfolding any
  one_more s t =
      any_append (joins s t) xs (x ∷ [])
      ∙ ap (λ (b : Bool). any (joins s t) xs || b) (or-false (eqb s x.from && eqb t x.to))

  same_row_lem : (t : ℕ) → t < 32
      → member (get_or (rows_with rows x) x.from 0) t ≡ any (joins x.from t) (xs ++ (x ∷ []))
  same_row_lem t h =
      ap (λ (m : ℕ). member m t) (get_or-set_same rows x.from
      (set_of 32 (λ t. member (get_or rows x.from 0) t || eqb t x.to)) 0 (rw g.size hf))
      ∙ member-set_of 32 (λ t. member (get_or rows x.from 0) t || eqb t x.to) t
      ∙ ap (λ (b : Bool). b && (member (get_or rows x.from 0) t || eqb t x.to)) (lt-ltb t 32 h)
      ∙ ap (λ (b : Bool). b || eqb t x.to) (g.bits x.from t hf h)
      ∙ sym (one_more x.from t
      ∙ ap (λ (b : Bool). any (joins x.from t) xs || (b && eqb t x.to)) (eq-eqb x.from x.from refl))

  other_row : (s t : ℕ) → ¬ (s ≡ x.from) → s < 32 → t < 32
      → member (get_or (rows_with rows x) s 0) t ≡ any (joins s t) (xs ++ (x ∷ []))
  other_row s t d hs h =
      ap (λ (m : ℕ). member m t) (get_or-set_other rows x.from s
      (set_of 32 (λ t. member (get_or rows x.from 0) t || eqb t x.to)) 0 d)
      ∙ g.bits s t hs h
      ∙ sym (one_more s t ∙ ap (λ (b : Bool). any (joins s t) xs || (b && eqb t x.to)) (ne_eqb s x.from d)
      ∙ or-false (any (joins s t) xs))

  abbrev row_with : ℕ
  row_with = set_of 32 (λ t. member (get_or rows x.from 0) t || eqb t x.to)

  pub rows_more : Rows (rows_with rows x) (xs ++ (x ∷ []))
  rows_more = record {
    size = length-set rows x.from (set_of 32 (λ t. member (get_or rows x.from 0) t || eqb t x.to)) ∙ g.size;
    words = λ s h. elim (ℕ_discrete s x.from) [
      | yes e ↦ rw (e, get_or-set_same rows x.from row_with 0 (rw g.size hf))
          (set_of-lt 32 (λ t. member (get_or rows x.from 0) t || eqb t x.to))
      | no d ↦ rw (get_or-set_other rows x.from s row_with 0 d) (g.words s h)
    ];
    bits = λ s t hs h. elim (ℕ_discrete s x.from) [
      | yes e ↦ rw e (same_row_lem t h)
      | no d ↦ other_row s t d hs h
    ];
  }

  -- the step's bit was set before exactly when it repeats an earlier one
  pub repeated_more : not (distinct (xs ++ (x ∷ []))) ≡ not (distinct xs) || member (get_or rows x.from 0) x.to
  repeated_more =
      ap not (distinct_snoc xs x)
      ∙ de_morgan (distinct xs) (any (same_step x) xs)
      ∙ ap (λ (b : Bool). not (distinct xs) || b) (sym (g.bits x.from x.to hf ht))
    where
      de_morgan : (a b : Bool) → not (a && not b) ≡ not a || b
      de_morgan true true = refl
      de_morgan true false = refl
      de_morgan false b = refl
