-- The states of a set in ascending order are its lowest member, and then those of the rest.
use Prim.Native.Nat.{ℕ, ◌≤◌, ◌<◌}
use mathlib.Core.Path.{◌≡◌, refl, sym, ap, ◌∙◌}
use mathlib.Core.Bool.{Bool, true, false, cond, not, ◌&&◌, false≢true, and-true}
use mathlib.Core.Logic.{⊎_elim}
use mathlib.Core.List.Memᴰ
use mathlib.Core.List.{List, [], ◌∷◌, Memᴰ}
use native.Mathlib.Omega.{arith}
use borrow.Author.Tests.{eq-eqb, ne_eqb}
use lib.Dec.{eqb}
use Rattle.sets.specs.Member.{member, set_of, lowest_of}
use Rattle.sets.proofs.SetOf.{member-set_of-below, lowest_of-has, lowest_of_least}
use Rattle.sets.proofs.Laws.{member-zero}
use Rattle.ctl.specs.Range.{below, select}
use Rattle.ctl.proofs.Select.{in_below}
use Rattle.label.specs.ReadingOrder.{states_with, Pairwise}
use Rattle.label.proofs.Select.{select_cong}
use Rattle.label.proofs.Pairwise.{tabulate_ascending}

-- in an ascending list, the least number that has p is selected first
select_least : (p : ℕ → Bool) (ks : List ℕ) → Pairwise ◌<◌ ks → (s : ℕ) → Memᴰ s ks → p s ≡ true
    → ((k : ℕ) → p k ≡ true → s ≤ k)
    → select p ks ≡ s ∷ select (λ k. p k && not (eqb k s)) ks
unfolding select
select_least p [] up s m has least = absurd (Memᴰ.not-nil m)
select_least p (x ∷ ks) up s m has least = go (p x) refl (λ t. select_least p ks up.1 s t has least)
  where
    rest : ¬ (s ≡ x) → Memᴰ s ks
    rest d = ⊎_elim (λ e. absurd (d e)) (λ t. t) (Memᴰ.cases_cons m)

    go : (b : Bool) → p x ≡ b → (Memᴰ s ks → select p ks ≡ s ∷ select (λ k. p k && not (eqb k s)) ks)
        → cond b (x ∷ select p ks) (select p ks)
        ≡ s ∷ cond (b && not (eqb x s)) (x ∷ select (λ k. p k && not (eqb k s)) ks)
        (select (λ k. p k && not (eqb k s)) ks)
    go true e later =
        let same : s ≡ x =
        ⊎_elim (λ q. q) (λ t. absurd (let l = up.0 s t in let g = least x e in omega arith)) (Memᴰ.cases_cons m) in
        (λ i. sym same i ∷ select_cong p (λ k. p k && not (eqb k s)) ks
        (λ k t. let l = up.0 k t in sym (ap (λ (b : Bool). p k && not b) (ne_eqb k s (omega arith)) ∙ and-true (p k)))
        i)
        ∙ ap (λ (b : Bool). s
        ∷ cond (not b) (x ∷ select (λ k. p k && not (eqb k s)) ks) (select (λ k. p k && not (eqb k s)) ks))
        (sym (eq-eqb x s (sym same)))
    go false e later = later (rest (λ q. false≢true (sym e ∙ ap p (sym q) ∙ has)))

-- the states of a set that is given by a test are those that pass it
pub set-states : (f : ℕ → Bool) → states_with (below 32) (member (set_of 32 f)) ≡ select f (below 32)
set-states f = select_cong (member (set_of 32 f)) f (below 32) (λ s m. member-set_of-below 32 f s ((in_below 32 s).0 m))

-- the lowest member of a set, and then the states of the set without it
pub lowest_first : (set : ℕ) → lowest_of 32 (member set) < 32
    → states_with (below 32) (member set)
    ≡ lowest_of 32 (member set)
    ∷ states_with (below 32) (member (set_of 32 (λ t. member set t && not (eqb t (lowest_of 32 (member set))))))
lowest_first set h =
    let s = lowest_of 32 (member set) in
    select_least (member set) (below 32) (tabulate_ascending 32 (λ k. k) (λ i j l. l)) s ((in_below 32 s).1 h)
    (lowest_of-has 32 (member set) h) (lowest_of_least 32 (member set))
    ∙ ap (λ (xs : List ℕ). s ∷ xs) (sym (set-states (λ t. member set t && not (eqb t s))))

select_none : (p : ℕ → Bool) (ks : List ℕ) → ((k : ℕ) → p k ≡ false) → select p ks ≡ []
unfolding select
select_none p [] e = refl
select_none p (k ∷ ks) e = ap (λ (b : Bool). cond b (k ∷ select p ks) (select p ks)) (e k) ∙ select_none p ks e

-- the empty set has no states
pub no-states : states_with (below 32) (member 0) ≡ []
no-states = select_none (member 0) (below 32) member-zero
