-- Laws of rows: members of what the rules make of sets, as propositions.
use Prim.Native.Nat.{ℕ, ◌-◌, ◌^◌, ◌<◌}
use native.Mathlib.Omega.{arith}
use mathlib.Core.Path.{◌≡◌, refl, sym, ap, ap₂, ◌∙◌}
use mathlib.Core.Bool.{Bool, true, false, not, cond, ◌&&◌, ◌||◌, true≢false, false≢true}
use mathlib.Core.Logic.{◌↔◌, ◌⊎◌, ⊎_elim}
use native.Mathlib.Nat.{lt_of_lt_of_le, lt_of_le_of_lt}
use borrow.Author.Tests.{eqb-true, eqb-false, eq-eqb, ne_eqb, ltb-true, lt-ltb, not-true, not-false}
use lib.Bits.{bit_and, bit_or, and_lt, or_lt}
use lib.Dec.{eqb, ltb}
use lib.Pow.{pow_mono, ones_sub-lt}
use Rattle.sets.specs.Member.{member, set_of, lowest_of}
use Rattle.sets.proofs.Laws.{member-and, member-or, member-zero, member_complement, member_inside}
use Rattle.sets.proofs.SetOf.{
  member-set_of-below,
  set_of-lt,
  empty,
  some_member,
  lowest_of-has,
  lowest_of_least,
  in_set,
}
use Rattle.table.proofs.Bools.{and_parts, parts_and, or_parts, or_left, or_right, or_neither}
use Rattle.rows.specs.declared.row.Row.{Row}
use Rattle.rows.specs.Row.{known, turn, without, only, Clear, clashes, union}
use Rattle.rows.specs.Words.{SmallRow}
use Rattle.rows.specs.Rules.{unmet}

-- ---- one word

-- members of both, of one of them
pub and-true : (x y t : ℕ) → (member (bit_and x y) t ≡ true) ↔ ((member x t ≡ true) × (member y t ≡ true))
and-true x y t = (
  λ e. and_parts (member x t) (member y t) (sym (member-and x y t) ∙ e),
  λ r. member-and x y t ∙ parts_and (member x t) (member y t) r.0 r.1,
)

pub or-true : (x y t : ℕ) → (member (bit_or x y) t ≡ true) ↔ ((member x t ≡ true) ⊎ (member y t ≡ true))
or-true x y t = (
  λ e. or_parts (member x t) (member y t) (sym (member-or x y t) ∙ e),
  λ r. member-or x y t ∙ ⊎_elim (or_left (member x t) (member y t)) (or_right (member x t) (member y t)) r,
)

-- members of a set that is taken where b is true
pub cond-true : (b : Bool) (x t : ℕ) → (member (cond b x 0) t ≡ true) ↔ ((b ≡ true) × (member x t ≡ true))
cond-true true x t = (λ e. (refl, e), λ r. r.1)
cond-true false x t = (λ e. absurd (true≢false (sym e ∙ member-zero t)), λ r. absurd (false≢true r.0))

-- a member of one set that is not in the other
pub without-true : (x y t : ℕ) → y < 2 ^ 32
    → (member (without x y) t ≡ true) ↔ ((t < 32) × (member x t ≡ true) × (member y t ≡ false))
without-true x y t h = (
  λ e. let p = (and-true x (4294967295 - y) t).0 e in
      let q = and_parts (ltb t 32) (not (member y t)) (sym (member_complement 32 y t h) ∙ p.1) in
      (ltb-true t 32 q.0, p.0, not-true (member y t) q.1),
  λ r. (and-true x (4294967295 - y) t).1
      (r.1, member_complement 32 y t h ∙ parts_and (ltb t 32) (not (member y t)) (lt-ltb t 32 r.0) (ap not r.2)),
)

-- a set that is 0 has no member, and else it has one
pub empty_none : (x : ℕ) → eqb x 0 ≡ true → (t : ℕ) → member x t ≡ false
empty_none x e t = ap (λ (y : ℕ). member y t) (eqb-true x 0 e) ∙ member-zero t

pub nonempty_some : (x : ℕ) → x < 2 ^ 32 → eqb x 0 ≡ false → (t : ℕ) × (t < 32) × (member x t ≡ true)
nonempty_some x h e = some_member 32 x h (eqb-false x 0 e)

pub none_empty : (x : ℕ) → x < 2 ^ 32 → ((t : ℕ) → t < 32 → member x t ≡ false) → eqb x 0 ≡ true
none_empty x h none = eq-eqb x 0 (empty 32 x h none)

pub some_nonempty : (x t : ℕ) → member x t ≡ true → eqb x 0 ≡ false
some_nonempty x t e = ne_eqb x 0 (λ q. true≢false (sym e ∙ ap (λ (y : ℕ). member y t) q ∙ member-zero t))

-- a set with one member has no other
pub only-true : (x : ℕ) → x < 2 ^ 32
    → (only x ≡ true) ↔ ((c : ℕ) × (member x c ≡ true) × ((t : ℕ) → member x t ≡ true → t ≡ c))
unfolding only
only-true x h = (there, back)
  where
    low : ℕ
    low = lowest_of 32 (member x)

    -- its members but the lowest
    others : ℕ
    others = set_of 32 (λ t. member x t && not (eqb t low))

    below : (t : ℕ) → member x t ≡ true → low < 32
    below t e = lt_of_le_of_lt (lowest_of_least 32 (member x) t e) (member_inside 32 x t h e)

    there : only x ≡ true → (c : ℕ) × (member x c ≡ true) × ((t : ℕ) → member x t ≡ true → t ≡ c)
    there e =
        let p = and_parts (not (eqb x 0)) (eqb others 0) e in
        let some = nonempty_some x h (not-true (eqb x 0) p.0) in
        (low, lowest_of-has 32 (member x) (below some.0 some.2), λ t m. same t m p.1 (eqb t low) refl)
      where
        same : (t : ℕ) → member x t ≡ true → eqb others 0 ≡ true → (b : Bool) → eqb t low ≡ b → t ≡ low
        same t m none true q = eqb-true t low q
        same t m none false q = absurd (true≢false (sym
            ((in_set 32 (λ t. member x t && not (eqb t low)) t).1 (
              member_inside 32 x t h m,
              parts_and (member x t) (not (eqb t low)) m (ap not q),
            ))
            ∙ empty_none others none t))

    back : (c : ℕ) × (member x c ≡ true) × ((t : ℕ) → member x t ≡ true → t ≡ c) → only x ≡ true
    back (c, m, one) =
        parts_and (not (eqb x 0)) (eqb others 0) (ap not (some_nonempty x c m))
        (none_empty others (set_of-lt 32 _)
        (λ t l. member-set_of-below 32 (λ t. member x t && not (eqb t low)) t l ∙ none t (member x t) refl))
      where
        none : (t : ℕ) (b : Bool) → member x t ≡ b → b && not (eqb t low) ≡ false
        none t false q = refl
        none t true q = ap not (eq-eqb t low (one t q ∙ sym (one low (lowest_of-has 32 (member x) (below c m)))))

-- ---- sizes

pub without_small : (x y : ℕ) → x < 2 ^ 32 → without x y < 2 ^ 32
without_small x y h = and_lt 32 x (4294967295 - y) h (ones_sub-lt 32 y)

pub cond_small : (b : Bool) (x : ℕ) → x < 2 ^ 32 → cond b x 0 < 2 ^ 32
cond_small true x h = h
cond_small false x h = omega arith

pub set_small : (n : ℕ) → n < 33 → (f : ℕ → Bool) → set_of n f < 2 ^ 32
set_small n h f = lt_of_lt_of_le (set_of-lt n f) (pow_mono {i = n} {j = 32} (omega arith))

-- ---- rows

pub turned_small : (b : Bool) (r : Row) → SmallRow r → SmallRow (turn b r)
turned_small true r h = h
turned_small false r h = (h.1, h.0)

-- what two rows know together
pub union-true : (r q : Row) (sign : Bool) (s : ℕ)
    → (known (union r q) sign s ≡ true) ↔ ((known r sign s ≡ true) ⊎ (known q sign s ≡ true))
union-true r q true s = or-true r.yes q.yes s
union-true r q false s = or-true r.no q.no s

-- a row that does not clash is clear, and one that does knows a state both ways
pub clear_row : (r : Row) → SmallRow r → clashes r ≡ false → Clear r
clear_row r h e s y n =
    true≢false (sym ((and-true r.yes r.no s).1 (y, n))
    ∙ empty_none (bit_and r.yes r.no) (not-false (eqb (bit_and r.yes r.no) 0) e) s)

pub clash_state : (r : Row) → SmallRow r → clashes r ≡ true
    → (s : ℕ) × (known r true s ≡ true) × (known r false s ≡ true)
clash_state r h e =
    let f = nonempty_some (bit_and r.yes r.no) (and_lt 32 r.yes r.no h.0 h.1)
    (not-true (eqb (bit_and r.yes r.no) 0) e) in
    let p = (and-true r.yes r.no f.0).0 f.2 in
    (f.0, p.0, p.1)

-- an end that is not met: it is an end, its step is not struck, and it is not known to have it
pub unmet-true : (target : ℕ) (step end : Row) → SmallRow step → SmallRow end → (t : ℕ)
    → (member (unmet target step end) t ≡ true)
    ↔ ((t < 32) × (member target t ≡ true) × (member step.no t ≡ false) × (member end.yes t ≡ false))
unmet-true target step end hs he t = (
  λ e. let p = law.0 e in
      let q = or_neither (member step.no t) (member end.yes t) (sym (member-or step.no end.yes t) ∙ p.2) in
      (p.0, p.1, q.0, q.1),
  λ r. law.1 (r.0, r.1, member-or step.no end.yes t ∙ ap₂ ◌||◌ r.2 r.3),
)
  where
    law : (member (unmet target step end) t ≡ true)
        ↔ ((t < 32) × (member target t ≡ true) × (member (bit_or step.no end.yes) t ≡ false))
    law = without-true target (bit_or step.no end.yes) t (or_lt 32 step.no end.yes hs.1 he.0)
