-- Laws of words that only grow: what is marked stays marked, and the members of a set are gone through one by one.
use Prim.Native.Nat.{ℕ, suc, ◌-◌, ◌^◌, ◌<◌}
use native.Mathlib.Decide.{ℕ_discrete}
use mathlib.Core.Path.{◌≡◌, refl, sym, ap, subst, ◌∙◌}
use mathlib.Core.Bool.{Bool, true, false, not, ◌&&◌, ◌||◌, true≢false}
use mathlib.Core.Logic.{inl, inr, ⊎_elim}
use mathlib.Core.List.{List}
use borrow.Author.Tests.{eqb-true, eq-eqb}
use lib.Bits.{bit_or}
use lib.Dec.{eqb}
use lib.ListN.{length, get_or, set, length-set}
use lib.Seq.{get_or-set_same, get_or-set_other}
use Rattle.sets.specs.Member.{member, set_of}
use Rattle.sets.proofs.Laws.{member-or, member-zero, member_inside}
use Rattle.sets.proofs.SetOf.{member-set_of-below}
use Rattle.sets.proofs.Walk.{others}
use Rattle.table.proofs.Bools.{or_right, or_neither, same_test}
use Rattle.rows.specs.declared.row.Row.{Row}
use Rattle.rows.specs.Row.{known, without, union}
use Rattle.rows.specs.Words.{SmallRow}
use Rattle.readers.specs.declared.who_reads.Readers.{Readers}
use Rattle.readers.specs.Reads.{AgreeAt}
use Rattle.readers.specs.Readers.{grown}
use Rattle.readers.specs.Marked.{Raised, NodeMarked, KeptMarked, StepsMarked, LevelMarked}
use Rattle.rows.proofs.RowLaws.{or-true, without-true, union-true}

-- ---- words that only grow

pub raised_then : {a b c : List ℕ} → Raised a b → Raised b c → Raised a c
raised_then p q = record { same_length = q.same_length ∙ p.same_length; stays = λ k s m. q.stays k s (p.stays k s m) }

-- word k has the members of a set
abbrev pub Has : List ℕ → ℕ → ℕ → Type 0
Has words set k = (s : ℕ) → member set s ≡ true → member (get_or words k 0) s ≡ true

-- they are put into it
module _ (words : List ℕ) (k more : ℕ) (h : k < length words) where
  abbrev pub with_more : List ℕ
  with_more = set words k (bit_or (get_or words k 0) more)

  at_k : get_or with_more k 0 ≡ bit_or (get_or words k 0) more
  at_k = get_or-set_same words k (bit_or (get_or words k 0) more) 0 h

  pub put_has : Has with_more more k
  put_has s m = ap (λ (w : ℕ). member w s) at_k ∙ (or-true (get_or words k 0) more s).1 (inr m)

  put_stays : (j s : ℕ) → member (get_or words j 0) s ≡ true → member (get_or with_more j 0) s ≡ true
  put_stays j s m = elim (ℕ_discrete j k) [
    | yes e ↦ subst (λ (i : ℕ). member (get_or with_more i 0) s ≡ true) (sym e)
        (ap (λ (w : ℕ). member w s) at_k
        ∙ (or-true (get_or words k 0) more s).1 (inl (subst (λ (i : ℕ). member (get_or words i 0) s ≡ true) e m)))
    | no d ↦ ap (λ (w : ℕ). member w s) (get_or-set_other words k j (bit_or (get_or words k 0) more) 0 d) ∙ m
  ]

  pub put_raised : Raised words with_more
  put_raised = record { same_length = length-set words k (bit_or (get_or words k 0) more); stays = put_stays }

-- ---- the marks of a change

module _ {looks looks' : List ℕ} (more : Raised looks looks') (r : Readers) where
  pub marked_more : {c t : ℕ} → NodeMarked r looks c t → NodeMarked r looks' c t
  marked_more {c} {t} m = record {
    own = more.stays (get_or r.first (suc c) 0 - 1) t m.own;
    here = λ i k p q. more.stays k t (m.here i k p q);
    behind = λ i s p q e. more.stays (get_or r.first i 0) s (m.behind i s p q e);
  }

  pub kept_marked_more : {t : ℕ} → KeptMarked r looks t → KeptMarked r looks' t
  kept_marked_more {t} m = record { here = more.stays 0 t m.here; behind = λ s e. more.stays 0 s (m.behind s e) }

  pub steps_marked_more : {s : ℕ} → StepsMarked r looks s → StepsMarked r looks' s
  steps_marked_more {s} m = record { kept = more.stays 0 s m.kept; nodes = λ i k p q. more.stays k s (m.nodes i k p q) }

  pub level_marked_more : {k t : ℕ} → LevelMarked r looks k t → LevelMarked r looks' k t
  level_marked_more {k} {t} m = record {
    own = more.stays k t m.own;
    behind = λ s e. more.stays (suc k) s (m.behind s e);
  }

-- a member of y that x does not miss is one of x
not_missed : (x y t : ℕ) → x < 2 ^ 32 → y < 2 ^ 32 → member (without y x) t ≡ false → member y t ≡ true
    → member x t ≡ true
not_missed x y t p q none m = go (member x t) refl
  where
    go : (b : Bool) → member x t ≡ b → member x t ≡ true
    go true e = e
    go false e = absurd (true≢false (sym ((without-true y x t p).1 (member_inside 32 y t q m, m, e)) ∙ none))

-- outside what has grown the old row with the new one added agrees with the old row
pub grown_agrees : (old new : Row) → SmallRow old → SmallRow new → (t : ℕ) → member (grown old new) t ≡ false
    → AgreeAt t old (union old new)
grown_agrees old new p q t none sign = same_test (known (union old new) sign t) (known old sign t) (there sign)
    (λ m. (union-true old new sign t).1 (inl m))
  where
    missed : (member (without new.yes old.yes) t ≡ false) × (member (without new.no old.no) t ≡ false)
    missed = or_neither _ _ (sym (member-or (without new.yes old.yes) (without new.no old.no) t) ∙ none)

    from_new : (sign : Bool) → known new sign t ≡ true → known old sign t ≡ true
    from_new true m = not_missed old.yes new.yes t p.0 q.0 missed.0 m
    from_new false m = not_missed old.no new.no t p.1 q.1 missed.1 m

    there : (sign : Bool) → known (union old new) sign t ≡ true → known old sign t ≡ true
    there sign m = ⊎_elim (λ e. e) (from_new sign) ((union-true old new sign t).0 m)

-- ---- the members of a set, one by one

-- P holds of those gone through
abbrev pub Gone : ℕ → ℕ → (ℕ → Type 0) → Type 0
Gone all left P = (t : ℕ) → t < 32 → member all t ≡ true → member left t ≡ false → P t

pub gone_next : (all left s : ℕ) (P Q : ℕ → Type 0) → ((t : ℕ) → P t → Q t) → Gone all left P → Q s
    → Gone all (others left s) Q
gone_next all left s P Q more g here t h m e = go (eqb t s) refl
  where
    other : (b : Bool) → b && not false ≡ false → b ≡ false
    other true q = q
    other false q = refl

    go : (b : Bool) → eqb t s ≡ b → Q t
    go true q = subst Q (sym (eqb-true t s q)) here
    go false q = more t (g t h m (other (member left t)
        (ap (λ (b : Bool). member left t && not b) (sym q)
        ∙ sym (member-set_of-below 32 (λ u. member left u && not (eqb u s)) t h) ∙ e)))

pub gone_last : (all left : ℕ) (P : ℕ → Type 0) → all < 2 ^ 32 → left ≡ 0 → Gone all left P → (t : ℕ)
    → member all t ≡ true → P t
gone_last all left P small none g t m =
    g t (member_inside 32 all t small m) m (ap (λ (w : ℕ). member w t) none ∙ member-zero t)

-- the set of s alone has s
pub one_has : (s : ℕ) → s < 32 → member (set_of 32 (λ t. member 0 t || eqb t s)) s ≡ true
one_has s h =
    member-set_of-below 32 (λ t. member 0 t || eqb t s) s h ∙ or_right (member 0 s) (eqb s s) (eq-eqb s s refl)
