-- AX and EX of a set at a state, read off the word of its next states.
use Prim.Native.Nat.{ℕ, ◌-◌, ◌^◌, ◌<◌}
use mathlib.Core.Path.{◌≡◌, refl, sym, ap, ap₂, ◌∙◌}
use mathlib.Core.Bool.{Bool, true, false, cond, not, ◌&&◌, ◌||◌, false≢true, and-eq-true_iff, not-not}
use mathlib.Core.Logic.{◌↔◌}
use mathlib.Core.List.Memᴰ
use mathlib.Core.List.{List, [], ◌∷◌, Memᴰ}
use native.Mathlib.Nat.{lt_of_lt_of_le, lt_of_le_of_lt}
use borrow.Author.Tests.{eqb-true, eqb-false, eq-eqb, ne_eqb, not-true}
use lib.Bits.{bit_and, and_le_l}
use lib.Dec.{eqb}
use lib.ListN.{length, get_or}
use Rattle.sets.specs.Member.{member, set_of}
use Rattle.sets.proofs.Laws.{member-zero, member-and}
use Rattle.sets.proofs.SetOf.{set_of-lt, member-set_of-below, set_of_cong, some_member}
use Rattle.table.specs.declared.record.Step.{Step}
use Rattle.table.specs.Table.{Table}
use Rattle.table.specs.Accept.{all, any, joins}
use Rattle.table.specs.Facts.{Wellformed}
use Rattle.table.specs.Rows.{Rows}
use Rattle.table.proofs.Bools.{eqb-sym, same_test}
use Rattle.ctl.specs.Rule.{Quantifier, every, some}
use Rattle.ctl.specs.Range.{tabulate}
use Rattle.ctl.specs.Levels.{has, next_in}
use Rattle.ctl.specs.Labels.{kept_steps, ends_from, targets, nonempty, is_kept}
use Rattle.ctl.proofs.Tabulate.{any-true}
use Rattle.ctl.proofs.Targets.{targets_sound, next_inside}
use Rattle.label.specs.Words.{full, row_next, next_word}
use Rattle.label.proofs.Marks.{member-not, word_of_marks}

-- the rows of the kept steps of a table, each a word
pub record KeptRows (T : Table) (list rows : List ℕ) : Type 0 where
  pub table : Wellformed T
  pub steps : Rows rows (kept_steps T.steps list)

-- ---- a row, and the list of the next states that it stands for

-- a step from s to t is among xs when t is one of the ends from s
any_ends : (xs : List Step) (s t : ℕ) → any (joins s t) xs ≡ any (eqb t) (ends_from xs s)
unfolding any ends_from
any_ends [] s t = refl
any_ends (x ∷ xs) s t =
    ap₂ (λ (a b : Bool). (a && eqb t x.to) || b) (eqb-sym s x.from) (any_ends xs s t) ∙ go (eqb x.from s)
  where
    go : (b : Bool)
        → (b && eqb t x.to) || any (eqb t) (ends_from xs s)
        ≡ any (eqb t) (cond b (x.to ∷ ends_from xs s) (ends_from xs s))
    go true = refl
    go false = refl

-- a number is among ts when one of them equals it
any_equal : (t : ℕ) (ts : List ℕ) → (any (eqb t) ts ≡ true) ↔ Memᴰ t ts
any_equal t ts = (
  λ e. let r = (any-true (eqb t) ts).0 e in Memᴰ.cast (eqb-true t r.0 r.2) r.1,
  λ m. (any-true (eqb t) ts).1 (t, m, eq-eqb t t refl),
)

-- a word is not 0 when b says that it has a member
has-member : (m : ℕ) (b : Bool) → m < 2 ^ 32 → ((t : ℕ) → t < 32 → member m t ≡ true → b ≡ true)
    → (b ≡ true → (t : ℕ) × (member m t ≡ true)) → not (eqb m 0) ≡ b
has-member m b h up down = same_test (not (eqb m 0)) b
    (λ e. let r = some_member 32 m h (eqb-false m 0 (not-true (eqb m 0) e)) in up r.0 r.1 r.2)
    (λ e. ap not (ne_eqb m 0 (λ z. absurd (false≢true (sym (member-zero (down e).0) ∙ (rw z at (down e).1))))))

-- a list with an element is not empty, and back
filled : {t : ℕ} {ts : List ℕ} → Memᴰ t ts → nonempty ts ≡ true
filled (Memᴰ.head e) = refl
filled (Memᴰ.tail m) = refl

first : (ts : List ℕ) → nonempty ts ≡ true → (t : ℕ) × Memᴰ t ts
first [] e = absurd (false≢true e)
first (t ∷ ts) e = (t, Memᴰ.head refl)

-- AX is that there are next states and all of them are in the set
every_all : (Y : List Bool) (ts : List ℕ) → next_in every Y ts ≡ nonempty ts && all (has Y) ts
unfolding next_in all
every_all Y [] = refl
every_all Y (t ∷ ts) = refl

-- all have p when none lacks it
all_none : (p : ℕ → Bool) (ts : List ℕ) → not (any (λ t. not (p t)) ts) ≡ all p ts
unfolding any all
all_none p [] = refl
all_none p (t ∷ ts) = go (p t) ∙ ap (λ (b : Bool). p t && b) (all_none p ts)
  where
    go : (b : Bool) → not (not b || any (λ t. not (p t)) ts) ≡ b && not (any (λ t. not (p t)) ts)
    go true = refl
    go false = refl

-- a word of 32 bits whose members are the states ts
module _ (row : ℕ) (ts : List ℕ) (small : row < 2 ^ 32) (inside : (t : ℕ) → Memᴰ t ts → t < 32)
    (bits : (t : ℕ) → t < 32 → (member row t ≡ true) ↔ Memᴰ t ts) where
  -- it is not 0 when there is one of them
  some_end : not (eqb row 0) ≡ nonempty ts
  some_end = has-member row (nonempty ts) small (λ t h e. filled ((bits t h).0 e))
      (λ e. let r = first ts e in (r.0, (bits r.0 (inside r.0 r.1)).1 r.1))

  -- it meets a word when one of them is in that
  meets : (p : ℕ → Bool) (Z : ℕ) → ((t : ℕ) → t < 32 → member Z t ≡ p t) → not (eqb (bit_and row Z) 0) ≡ any p ts
  meets p Z is = has-member (bit_and row Z) (any p ts) (lt_of_le_of_lt (and_le_l row Z) small)
      (λ t h e.
      let r = (and-eq-true_iff (member row t) (member Z t)).0 (sym (member-and row Z t) ∙ e) in
      (any-true p ts).1 (t, (bits t h).0 r.0, sym (is t h) ∙ r.1))
      (λ e.
      let r = (any-true p ts).0 e in
      let h = inside r.0 r.1 in (
        r.0,
        member-and row Z r.0
            ∙ (and-eq-true_iff (member row r.0) (member Z r.0)).1 ((bits r.0 h).1 r.1, is r.0 h ∙ r.2),
      ))

  -- AX and EX are read off it
  next_row : (q : Quantifier) (X : ℕ) (Y : List Bool) → X < 2 ^ 32 → ((t : ℕ) → t < 32 → member X t ≡ has Y t)
      → row_next q row X ≡ next_in q Y ts
  unfolding next_in
  next_row every X Y h is =
      ap₂ ◌&&◌ some_end
      (sym (not-not (eqb (bit_and row (full - X)) 0))
      ∙ ap not (meets (λ t. not (has Y t)) (full - X) (λ t l. member-not X t h l ∙ ap not (is t l)))
      ∙ all_none (has Y) ts)
      ∙ sym (every_all Y ts)
  next_row some X Y h is = meets (has Y) X is

-- ---- the rows of a table

module _ {T : Table} {list rows : List ℕ} (k : KeptRows T list rows) where
  -- a kept step ends in one of the 32 states that a word holds
  pub target_inside : (s t : ℕ) → Memᴰ t (targets T list s) → t < 32
  target_inside s t m =
      lt_of_lt_of_le (next_inside T k.table list s t (targets_sound T list s t m)).1 k.table.few_states

  -- bit t of row s says whether t is one of the targets of s
  pub row-targets : (s t : ℕ) → s < 32 → t < 32 → member (get_or rows s 0) t ≡ any (eqb t) (targets T list s)
  row-targets s t hs ht = k.steps.bits s t hs ht ∙ any_ends (kept_steps T.steps list) s t

  -- the same with t among the targets
  pub row-member : (s t : ℕ) → s < 32 → t < 32 → (member (get_or rows s 0) t ≡ true) ↔ Memᴰ t (targets T list s)
  row-member s t hs ht = rw (row-targets s t hs ht) (any_equal t (targets T list s))

  -- a row is not 0 when its state is kept
  pub row_kept : (s : ℕ) → s < 32 → not (eqb (get_or rows s 0) 0) ≡ is_kept T list s
  row_kept s h =
      some_end (get_or rows s 0) (targets T list s) (k.steps.words s h) (target_inside s) (λ t l. row-member s t h l)

  -- AX and EX of a word at a state, read off its row
  pub row_next_lem : (q : Quantifier) (s X : ℕ) (Y : List Bool) → s < 32 → X < 2 ^ 32
      → ((t : ℕ) → t < 32 → member X t ≡ has Y t)
      → row_next q (get_or rows s 0) X ≡ next_in q Y (targets T list s)
  row_next_lem q s X Y h =
      next_row (get_or rows s 0) (targets T list s) (k.steps.words s h) (target_inside s)
      (λ t l. row-member s t h l) q X Y

  -- the same of the word of a list of marks
  pub row_next_marks : (q : Quantifier) (s X : ℕ) (Y : List Bool) → s < 32 → X ≡ set_of 32 (has Y)
      → row_next q (get_or rows s 0) X ≡ next_in q Y (targets T list s)
  row_next_marks q s X Y h e =
      row_next_lem q s X Y h (rw e (set_of-lt 32 (has Y)))
      (λ t l. ap (λ (x : ℕ). member x t) e ∙ member-set_of-below 32 (has Y) t l)

  -- the states at which AX or EX of a word holds
  pub next_word_lem : (q : Quantifier) (X : ℕ) (Y : List Bool) → X ≡ set_of 32 (has Y)
      → next_word q rows (length T.states) X
      ≡ set_of 32 (has (tabulate (length T.states) (λ s. next_in q Y (targets T list s))))
  unfolding next_word
  next_word_lem q X Y e =
      set_of_cong (length T.states) _ _ (λ s h. row_next_marks q s X Y (lt_of_lt_of_le h k.table.few_states) e)
      ∙ word_of_marks (length T.states) (λ s. next_in q Y (targets T list s)) k.table.few_states
