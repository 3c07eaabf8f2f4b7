-- What stands in a list that a test has picked from, and in the numbers below n.
use Prim.Native.Nat.{ℕ, ◌<◌}
use mathlib.Core.Path.{◌≡◌, refl, sym, ap, ◌∙◌}
use mathlib.Core.Bool.{Bool, true, false, cond, false≢true}
use mathlib.Core.Logic.{◌↔◌, ◌⊎◌, inr, ⊎_elim, ⊎_map}
use mathlib.Core.List.Memᴰ
use mathlib.Core.List.{List, [], ◌∷◌, Memᴰ}
use Rattle.ctl.specs.Range.{below, select}
use Rattle.ctl.proofs.Tabulate.{member_tabulate, tabulate_member}

-- the numbers below n
pub in_below : (n k : ℕ) → Memᴰ k (below n) ↔ (k < n)
in_below n k = (λ m. let r = tabulate_member n (λ k. k) m in rw r.2 r.1, member_tabulate n (λ k. k) k)

-- an element more in front where a test passes
pub in_cond : {A : Type 0} {y : A} (b : Bool) (x : A) (xs : List A)
    → Memᴰ y (cond b (x ∷ xs) xs) ↔ (((b ≡ true) × (y ≡ x)) ⊎ Memᴰ y xs)
in_cond true x xs = (λ m. ⊎_map (λ e. (refl, e)) (λ r. r) (Memᴰ.cases_cons m), ⊎_elim (λ r. Memᴰ.head r.1) Memᴰ.tail)
in_cond false x xs = (inr, ⊎_elim (λ r. absurd (false≢true r.0)) (λ m. m))

-- those of the numbers that have p
pub in_select : (p : ℕ → Bool) (ks : List ℕ) (k : ℕ) → Memᴰ k (select p ks) ↔ (Memᴰ k ks × (p k ≡ true))
unfolding select
in_select p [] k = (λ m. absurd (Memᴰ.not-nil m), λ r. r.0)
in_select p (x ∷ ks) k = (
  λ m. ⊎_elim
      (λ r. (Memᴰ.head r.1, ap p r.1 ∙ r.0))
      (λ m'. let r = (in_select p ks k).0 m' in (Memᴰ.tail r.0, r.1))
      ((in_cond (p x) x (select p ks)).0 m),
  λ r. (in_cond (p x) x (select p ks)).1
      (⊎_map (λ e. (sym (ap p e) ∙ r.1, e)) (λ m. (in_select p ks k).1 (m, r.1)) (Memᴰ.cases_cons r.0)),
)
