-- What stands in the lists that the circuit is made of: mapped, joined and selected lists, and the steps out of a
-- state.
use Prim.Native.Nat.{ℕ, zero, suc, ◌+◌, ◌<◌, zero-le, suc-le-suc}
use native.Mathlib.Nat.{not-suc-le-zero, le_of_suc-le-suc}
use native.Mathlib.Omega.{arith}
use mathlib.Core.Path.{◌≡◌, refl, sym, subst}
use mathlib.Core.Logic.{◌↔◌, inl, inr, ⊎_elim}
use mathlib.Core.List.Memᴰ
use mathlib.Core.List.{List, [], ◌∷◌, ◌++◌, map, Memᴰ}
use borrow.Author.Tests.{eqb-true, eq-eqb}
use lib.Dec.{eqb}
use lib.ListN.{length, get_or}
use Rattle.table.specs.declared.record.Step.{Step}
use Rattle.table.specs.Table.{Table, zero_step, step_at}
use Rattle.circuit.specs.Variables.{concat, out_of, steps_out}
use Rattle.ctl.specs.Range.{below}
use Rattle.ctl.proofs.Select.{in_cond, in_below}

-- ---- what each element has

-- each element of the list has P
abbrev pub Each : {A : Type 0} → (A → Type 0) → List A → Type 0
Each {A} P xs = (x : A) → Memᴰ x xs → P x

module _ {A : Type 0} (P : A → Type 0) where
  -- an empty list
  pub each_none : Each P []
  each_none x m = absurd (Memᴰ.not-nil m)

  -- one element more
  pub each_more : (a : A) (xs : List A) → P a → Each P xs → Each P (a ∷ xs)
  each_more a xs p ps x m = ⊎_elim (λ e. subst P (sym e) p) (ps x) (Memᴰ.cases_cons m)

  -- one element
  pub each_one : (a : A) → P a → Each P (a ∷ [])
  each_one a p = each_more a [] p each_none

  -- a list behind another
  pub each_append : (xs ys : List A) → Each P xs → Each P ys → Each P (xs ++ ys)
  each_append xs ys ps qs x m = ⊎_elim (ps x) (qs x) (Memᴰ.append_cases xs m)

  -- lists joined
  pub each_concat : (xss : List (List A)) → Each (Each P) xss → Each P (concat xss)
  unfolding concat
  each_concat [] ps = each_none
  each_concat (xs ∷ xss) ps =
      each_append xs (concat xss) (ps xs (Memᴰ.head refl)) (each_concat xss (λ ys m. ps ys (Memᴰ.tail m)))

  -- a mapped list
  pub each_map : {B : Type 0} (f : B → A) (xs : List B) → Each (λ x. P (f x)) xs → Each P (map f xs)
  each_map f xs ps y m = let r = Memᴰ.of_map f xs m in subst P r.2 (ps r.0 r.1)

-- an element of a part is one of the whole
pub in_concat : {A : Type 0} {x : A} {xs : List A} (xss : List (List A)) → Memᴰ x xs → Memᴰ xs xss → Memᴰ x (concat xss)
unfolding concat
in_concat [] m i = absurd (Memᴰ.not-nil i)
in_concat {A} {x} {xs} (ys ∷ yss) m i = ⊎_elim
    (λ e. Memᴰ.append_left (concat yss) (subst (Memᴰ x) e m))
    (λ i'. Memᴰ.append_right ys (in_concat yss m i'))
    (Memᴰ.cases_cons i)

-- ---- a list for each number below n

module _ {A : Type 0} (n : ℕ) (f : ℕ → List A) where
  -- what each element of each list has
  pub each_over : (P : A → Type 0) → ((k : ℕ) → k < n → Each P (f k)) → Each P (concat (map f (below n)))
  each_over P ps = each_concat P _ (each_map (Each P) f (below n) (λ k m. ps k ((in_below n k).0 m)))

  -- an element of one of the lists
  pub in_over : {x : A} (k : ℕ) → k < n → Memᴰ x (f k) → Memᴰ x (concat (map f (below n)))
  in_over k h m = in_concat (map f (below n)) m (Memᴰ.map f ((in_below n k).1 h))

-- ---- the steps out of a state

-- the numbers of the steps out of s, counted from j on: each is that of a step that leaves s
pub out_place : (j : ℕ) (xs : List Step) (s k : ℕ) → Memᴰ k (out_of j xs s)
    → (i : ℕ) × (i < length xs) × (k ≡ j + i) × ((get_or xs i zero_step).from ≡ s)
unfolding out_of
out_place j [] s k m = absurd (Memᴰ.not-nil m)
out_place j (x ∷ xs) s k m = ⊎_elim
    (λ r. (zero, suc-le-suc zero-le, rw r.1 (omega arith), eqb-true x.from s r.0))
    (λ m'. let r = out_place (suc j) xs s k m' in (suc r.0, suc-le-suc r.1, omega (arith, r.2), r.3))
    ((in_cond (eqb x.from s) j (out_of (suc j) xs s)).0 m)

place_out : (j : ℕ) (xs : List Step) (s k i : ℕ) → i < length xs → k ≡ j + i → (get_or xs i zero_step).from ≡ s
    → Memᴰ k (out_of j xs s)
unfolding out_of
place_out j [] s k i h e f = absurd (not-suc-le-zero h)
place_out j (x ∷ xs) s k zero h e f = (in_cond (eqb x.from s) j (out_of (suc j) xs s)).1
    (inl (eq-eqb x.from s f, omega arith))
place_out j (x ∷ xs) s k (suc i) h e f =
    (in_cond (eqb x.from s) j (out_of (suc j) xs s)).1
    (inr (place_out (suc j) xs s k i (le_of_suc-le-suc h) (omega arith) f))

-- the steps out of s are those that leave it
pub in_out : (T : Table) (s j : ℕ) → Memᴰ j (steps_out T s) ↔ ((j < length T.steps) × ((step_at T j).from ≡ s))
in_out T s j = (
  λ m. let r = out_place 0 T.steps s j m in let e : j ≡ r.0 = omega (arith, r.2) in rw e (r.1, r.3),
  λ r. place_out 0 T.steps s j j r.0 (omega arith) r.1,
)
