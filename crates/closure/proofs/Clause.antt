-- One clause under marks: they contradict all of it, or leave one literal alone, which is marked, or are closed under
-- it.
use Prim.Native.Nat.{ℕ}
use mathlib.Core.Path.{◌≡◌, refl, sym, ap, subst, ◌∙◌}
use mathlib.Core.Bool.{Bool, true, false, not, cond, ◌&&◌, true≢false}
use mathlib.Core.Logic.{⊎_elim}
use mathlib.Core.List.Memᴰ
use mathlib.Core.List.{List, [], ◌∷◌, Memᴰ}
use Rattle.table.specs.Accept.{all}
use Rattle.ctl.proofs.Tabulate.{all_true}
use Rattle.circuit.specs.Logic.{Literal, opposite}
use Rattle.closure.specs.Computed.{
  Marks,
  unknown,
  mark_at,
  is_known,
  contradicted,
  same_literal,
  holding,
  open_in,
  Progress,
  clash,
  marked,
  take_clause,
}
use Rattle.closure.proofs.Forced.{Alone, ClauseClosed}
use Rattle.closure.proofs.Marks.{Holds, same_literal_lem, literal_discrete, contradicted_holds, open_known, unknown_at}

-- the clause has a literal, and each of its literals is contradicted by Q
abbrev pub Against : (Literal ℕ → Type 0) → List (Literal ℕ) → Type 0
Against Q C = (l : Literal ℕ) × Memᴰ l C × ((k : Literal ℕ) → Memᴰ k C → Q (opposite k))

-- what a clause does: it clashes, marks the one literal left, or finds the marks closed and leaves them
pub data Taken (C : List (Literal ℕ)) (m : Marks) (new : Bool) : Progress → Type 0 where
  all-against : Against (Holds m) C → Taken C m new clash
  one_left : (l : Literal ℕ) → Memᴰ l C → Alone (Holds m) C l → mark_at m l.var ≡ unknown
      → Taken C m new (marked (holding m l) true)
  at_rest : ClauseClosed (Holds m) C → Taken C m new (marked m new)

-- ---- the open literals

module _ (m : Marks) where
  -- an open literal is in the clause, and is not contradicted
  open_sound : (C : List (Literal ℕ)) (l : Literal ℕ) → Memᴰ l (open_in m C) → Memᴰ l C × (contradicted m l ≡ false)
  unfolding open_in
  open_sound [] l h = absurd (Memᴰ.not-nil h)
  open_sound (x ∷ C) l h = go (contradicted m x) refl h (open_sound C l)
    where
      Open : List (Literal ℕ) → Type 0
      Open D = Memᴰ l D × (contradicted m l ≡ false)

      later : Open C → Open (x ∷ C)
      later r = (Memᴰ.tail r.0, r.1)

      go : (b : Bool) → contradicted m x ≡ b → Memᴰ l (cond b (open_in m C) (x ∷ open_in m C))
          → (Memᴰ l (open_in m C) → Open C)
          → Open (x ∷ C)
      go true e h rest = later (rest h)
      go false e h rest =
          ⊎_elim (λ p. (Memᴰ.head p, ap (contradicted m) p ∙ e)) (λ n. later (rest n)) (Memᴰ.cases_cons h)

  -- a literal that is not contradicted is open
  open_full : {l : Literal ℕ} {C : List (Literal ℕ)} → Memᴰ l C → contradicted m l ≡ false → Memᴰ l (open_in m C)
  unfolding open_in
  open_full {l} (Memᴰ.head p) e = rw (sym (ap (contradicted m) p) ∙ e) (Memᴰ.head p)
  open_full {l} (Memᴰ.tail {x = x} {xs = C} n) e = go (contradicted m x) (open_full n e)
    where
      go : (b : Bool) → Memᴰ l (open_in m C) → Memᴰ l (cond b (open_in m C) (x ∷ open_in m C))
      go true h = h
      go false h = Memᴰ.tail h

  -- a literal that is not open is contradicted
  shut : (C : List (Literal ℕ)) (l : Literal ℕ) → Memᴰ l C → ¬ Memᴰ l (open_in m C) → Holds m (opposite l)
  shut C l h n = go (contradicted m l) refl
    where
      go : (b : Bool) → contradicted m l ≡ b → Holds m (opposite l)
      go true e = (contradicted_holds m l).0 e
      go false e = absurd (n (open_full h e))

  -- where a literal is left alone, no other is open
  open_alone : (C : List (Literal ℕ)) (l k : Literal ℕ) → Alone (Holds m) C l → Memᴰ k (open_in m C) → k ≡ l
  open_alone C l k alone h = go (literal_discrete k l)
    where
      go : Dec (k ≡ l) → k ≡ l
      go (yes p) = p
      go (no n) =
          let r = open_sound C k h in
          absurd (true≢false (sym ((contradicted_holds m k).1 (alone k r.0 n)) ∙ r.1))

-- ---- the three cases

module _ (m : Marks) (new : Bool) where
  none_open : (C : List (Literal ℕ)) → open_in m C ≡ [] → Taken C m new (take_clause C [] m new)
  unfolding take_clause
  none_open [] e = at_rest (λ l h. absurd (Memᴰ.not-nil h))
  none_open (x ∷ C) e = all-against (x, Memᴰ.head refl, against)
    where
      against : (k : Literal ℕ) → Memᴰ k (x ∷ C) → Holds m (opposite k)
      against k h = shut m (x ∷ C) k h (λ o. Memᴰ.not-nil (subst (Memᴰ k) e o))

  module _ (C : List (Literal ℕ)) (x : Literal ℕ) (xs : List (Literal ℕ)) (e : open_in m C ≡ x ∷ xs) where
    is_open : (k : Literal ℕ) → Memᴰ k (x ∷ xs) → Memᴰ k (open_in m C)
    is_open k = subst (Memᴰ k) (sym e)

    first : Memᴰ x (open_in m C)
    first = is_open x (Memᴰ.head refl)

    -- where all the open literals are the first, it is left alone
    first_alone : all (same_literal x) xs ≡ true → Alone (Holds m) C x
    first_alone same k h n = shut m C k h (λ o. ⊎_elim n later (Memᴰ.cases_cons (subst (Memᴰ k) e o)))
      where
        later : ¬ Memᴰ k xs
        later o = n (sym ((same_literal_lem x k).0 ((all_true (same_literal x) xs).0 same k o)))

    -- where a literal is left alone, all the open literals are the first
    alone_first : (l : Literal ℕ) → Alone (Holds m) C l → all (same_literal x) xs ≡ true
    alone_first l alone = (all_true (same_literal x) xs).1 same
      where
        same : (k : Literal ℕ) → Memᴰ k xs → same_literal x k ≡ true
        same k o = (same_literal_lem x k).1
            (open_alone m C l x alone first ∙ sym (open_alone m C l k alone (is_open k (Memᴰ.tail o))))

    -- where it is held, the marks are closed
    first-held : Holds m x → ClauseClosed (Holds m) C
    first-held held l h alone = subst (Holds m) (open_alone m C l x alone first) held

    some_open : Taken C m new (take_clause C (x ∷ xs) m new)
    unfolding take_clause
    some_open = go (all (same_literal x) xs) refl (is_known (mark_at m x.var)) refl
      where
        go : (a : Bool) → all (same_literal x) xs ≡ a → (b : Bool) → is_known (mark_at m x.var) ≡ b
            → Taken C m new (cond (a && not b) (marked (holding m x) true) (marked m new))
        go true same false free = one_left x (open_sound m C x first).0 (first_alone same) (unknown_at m x.var free)
        go true same true met = at_rest (first-held (open_known m x (open_sound m C x first).1 met))
        go false differ b f = at_rest (λ l h alone. absurd (true≢false (sym (alone_first l alone) ∙ differ)))

-- what a clause does
pub taken : (C : List (Literal ℕ)) (m : Marks) (new : Bool) → Taken C m new (take_clause C (open_in m C) m new)
taken C m new = go (open_in m C) refl
  where
    go : (ls : List (Literal ℕ)) → open_in m C ≡ ls → Taken C m new (take_clause C ls m new)
    go [] e = none_open m new C e
    go (x ∷ xs) e = some_open m new C x xs e
