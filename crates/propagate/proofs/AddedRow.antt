-- A row added to the row at a place of a list of words: what each word then is, that bits only come, and what the
-- report says.
use Prim.Native.Nat.{ℕ, ◌+◌, ◌*◌, ◌^◌, ◌≤◌, ◌<◌}
use native.Mathlib.Omega.{arith}
use native.Mathlib.Decide.{dec_lt}
use mathlib.Core.Path.{◌≡◌, refl, sym, ap, ◌∙◌}
use mathlib.Core.Bool.{Bool, true, false, not, cond}
use mathlib.Core.Logic.{◌⊎◌, inl, inr, ⊎_elim}
use mathlib.Core.List.{List}
use borrow.Author.Tests.{eqb-true, eqb-false, not-true, not-false}
use lib.Bits.{bit_or, or_lt, or_zero_r, or_add_and, and_le_r}
use lib.Dec.{eqb}
use lib.ListN.{length, get_or, set, length-set}
use lib.Seq.{get_or-set_same, get_or-set_other, set-get_or, lt-length-set}
use Rattle.sets.specs.Member.{member}
use Rattle.table.proofs.Bools.{or_parts, or_neither}
use Rattle.rows.specs.declared.row.Row.{Row}
use Rattle.rows.specs.Row.{Within, union}
use Rattle.rows.specs.Words.{row_at, row_added, report_of, step_place, SmallRow}
use Rattle.rows.proofs.RowLaws.{or-true, cond_small}

-- two places are at least a row apart
abbrev pub Apart : ℕ → ℕ → Type 0
Apart p at = (p + 1 < at) ⊎ (at + 1 < p)

-- rows of different numbers are
pub places_apart : (k p j : ℕ) → ¬ (p ≡ j) → Apart (k + 2 * p) (k + 2 * j)
places_apart k p j d = go (dec_lt p j)
  where
    go : Dec (p < j) → Apart (k + 2 * p) (k + 2 * j)
    go (yes l) = inl (omega arith)
    go (no l) = inr (omega (arith, l, d))

pub steps_apart : (p j : ℕ) → ¬ (p ≡ j) → Apart (step_place p) (step_place j)
steps_apart p j d = elim (dec_lt p j) [ yes l ↦ inl (omega arith) | no l ↦ inr (omega (arith, l, d)) ]

-- rows of equal words
row-eq : {a b c d : ℕ} → a ≡ c → b ≡ d → ◌≡◌ {A = Row} (record { yes = a; no = b }) (record { yes = c; no = d })
row-eq p q = λ i. record { yes = p i; no = q i }

-- more bits make a larger number
or_up : (a b : ℕ) → a ≤ bit_or a b
or_up a b = omega (arith, or_add_and a b, and_le_r a b)

module _ (ws : List ℕ) (at : ℕ) (x : Row) where
  pub added_length : length (row_added ws at x) ≡ length ws
  added_length = simp length-set

  -- what the word k gets
  abbrev gets : ℕ → ℕ
  gets k = cond (eqb k at) x.yes (cond (eqb k (at + 1)) x.no 0)

  module _ (fits : at + 1 < length ws) where
    -- the row with the first of its words
    abbrev half : List ℕ
    half = set ws at (bit_or (get_or ws at 0) x.yes)

    -- the two words of the row, and the others
    at_first : get_or (row_added ws at x) at 0 ≡ bit_or (get_or ws at 0) x.yes
    at_first = get_or-set_other half (at + 1) at (bit_or (get_or ws (at + 1) 0) x.no) 0 (omega arith)
        ∙ get_or-set_same ws at (bit_or (get_or ws at 0) x.yes) 0 (omega arith)

    at_second : get_or (row_added ws at x) (at + 1) 0 ≡ bit_or (get_or ws (at + 1) 0) x.no
    at_second = get_or-set_same half (at + 1) (bit_or (get_or ws (at + 1) 0) x.no) 0
        (lt-length-set ws at (bit_or (get_or ws at 0) x.yes) fits)

    pub at_other : (k : ℕ) → (k ≡ at → ⊥) → (k ≡ at + 1 → ⊥) → get_or (row_added ws at x) k 0 ≡ get_or ws k 0
    at_other k p q = get_or-set_other half (at + 1) k (bit_or (get_or ws (at + 1) 0) x.no) 0 q
        ∙ get_or-set_other ws at k (bit_or (get_or ws at 0) x.yes) 0 p

    -- each word is with what it gets
    added_at_lem : (k : ℕ) → get_or (row_added ws at x) k 0 ≡ bit_or (get_or ws k 0) (gets k)
    added_at_lem k = go (eqb k at) (eqb k (at + 1)) refl refl
      where
        go : (p q : Bool) → eqb k at ≡ p → eqb k (at + 1) ≡ q
            → get_or (row_added ws at x) k 0 ≡ bit_or (get_or ws k 0) (cond p x.yes (cond q x.no 0))
        go true q e f = rw (eqb-true k at e) at_first
        go false true e f = rw (eqb-true k (at + 1) f) at_second
        go false false e f = at_other k (eqb-false k at e) (eqb-false k (at + 1) f) ∙ sym (or_zero_r (get_or ws k 0))

    -- the row at the place, and the rows apart from it
    pub added_here : row_at (row_added ws at x) at ≡ union (row_at ws at) x
    added_here = row-eq at_first at_second

    pub added_apart : (p : ℕ) → Apart p at → row_at (row_added ws at x) p ≡ row_at ws p
    added_apart p (inl l) =
        row-eq (at_other p (omega arith) (omega arith)) (at_other (p + 1) (omega arith) (omega arith))
    added_apart p (inr l) =
        row-eq (at_other p (omega arith) (omega arith)) (at_other (p + 1) (omega arith) (omega arith))

    -- a word past the row stays
    pub added_past : (k : ℕ) → at + 1 < k → get_or (row_added ws at x) k 0 ≡ get_or ws k 0
    added_past k l = at_other k (omega arith) (omega arith)

    -- bits only come
    pub added_grows : (k s : ℕ) → member (get_or ws k 0) s ≡ true → member (get_or (row_added ws at x) k 0) s ≡ true
    added_grows k s e = ap (λ (w : ℕ). member w s) (added_at_lem k) ∙ (or-true (get_or ws k 0) (gets k) s).1 (inl e)

    pub added_small : SmallRow x → ((k : ℕ) → get_or ws k 0 < 2 ^ 32) → (k : ℕ)
        → get_or (row_added ws at x) k 0 < 2 ^ 32
    added_small small all k =
        rw (added_at_lem k) (or_lt 32 (get_or ws k 0) (gets k) (all k) (gets_small (eqb k at) (eqb k (at + 1))))
      where
        gets_small : (p q : Bool) → cond p x.yes (cond q x.no 0) < 2 ^ 32
        gets_small true q = small.0
        gets_small false q = cond_small q x.no small.1

    -- ---- what the report says

    -- no bit came to either word
    quiet_words : (report_of ws at x).changed ≡ false
        → (bit_or (get_or ws at 0) x.yes ≡ get_or ws at 0) × (bit_or (get_or ws (at + 1) 0) x.no ≡ get_or ws (at + 1) 0)
    quiet_words e = let p = or_neither (not (eqb (bit_or (get_or ws at 0) x.yes) (get_or ws at 0)))
        (not (eqb (bit_or (get_or ws (at + 1) 0) x.no) (get_or ws (at + 1) 0))) e in
        (eqb-true _ _ (not-false _ p.0), eqb-true _ _ (not-false _ p.1))

    pub added_same : (report_of ws at x).changed ≡ false → row_added ws at x ≡ ws
    added_same e = let q = quiet_words e in rw (q.0, q.1, set-get_or ws at 0, set-get_or ws (at + 1) 0)

    pub joined_within : (report_of ws at x).changed ≡ false → Within x (row_at ws at)
    joined_within e s true k = let q = quiet_words e in rw q.0 at ((or-true (get_or ws at 0) x.yes s).1 (inr k))
    joined_within e s false k = let q = quiet_words e in rw q.1 at ((or-true (get_or ws (at + 1) 0) x.no s).1 (inr k))

    -- no word gets smaller, and where a bit came one gets larger
    pub added_up : (k : ℕ) → get_or ws k 0 ≤ get_or (row_added ws at x) k 0
    added_up k = rw (added_at_lem k) (or_up (get_or ws k 0) (gets k))

    pub added_more : (report_of ws at x).changed ≡ true → (k : ℕ) × (get_or ws k 0 < get_or (row_added ws at x) k 0)
    added_more e = ⊎_elim
        (λ f. (at, larger (get_or ws at 0) x.yes at_first f))
        (λ f. (at + 1, larger (get_or ws (at + 1) 0) x.no at_second f))
        (or_parts (not (eqb (bit_or (get_or ws at 0) x.yes) (get_or ws at 0))) _ e)
      where
        larger : (a b : ℕ) {c : ℕ} → c ≡ bit_or a b → not (eqb (bit_or a b) a) ≡ true → a < c
        larger a b p f = omega (arith, p, or_up a b, eqb-false (bit_or a b) a (not-true _ f))
