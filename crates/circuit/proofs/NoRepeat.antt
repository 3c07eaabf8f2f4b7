-- Lists in which no element stands twice.
use Prim.Native.Nat.{ℕ, zero, suc, ◌<◌}
use native.Mathlib.Nat.{not-suc-le-zero, le_of_suc-le-suc}
use native.Mathlib.Omega.{arith}
use mathlib.Core.Path.{◌≡◌, refl, sym}
use mathlib.Core.Bool.{Bool, true, false, cond}
use mathlib.Core.Logic.{⊎_elim}
use mathlib.Core.List.Memᴰ
use mathlib.Core.List.{List, [], ◌∷◌, ◌++◌, map, Memᴰ}
use lib.Dec.{eqb}
use lib.ListN.{length, get_or}
use Rattle.table.specs.declared.record.Step.{Step}
use Rattle.ctl.specs.Range.{tabulate, below}
use Rattle.ctl.proofs.Tabulate.{tabulate_member}
use Rattle.circuit.specs.Variables.{concat, out_of}
use Rattle.circuit.proofs.Lists.{Each, each_map, each_concat, out_place}

-- no element stands twice
abbrev pub NoRepeat : {A : Type 0} → List A → Type 0
NoRepeat [] = Unit
NoRepeat (x ∷ xs) = (¬ Memᴰ x xs) × NoRepeat xs

module _ {A : Type 0} where
  -- an element at a place of the list is in it
  pub member_at : (xs : List A) (d : A) (j : ℕ) → j < length xs → Memᴰ (get_or xs j d) xs
  member_at [] d j h = absurd (not-suc-le-zero h)
  member_at (x ∷ xs) d zero h = Memᴰ.head refl
  member_at (x ∷ xs) d (suc j) h = Memᴰ.tail (member_at xs d j (le_of_suc-le-suc h))

  -- the elements at two places differ
  pub no_repeat_at : (xs : List A) (d : A) → NoRepeat xs → (i j : ℕ) → i < j → j < length xs
      → ¬ (get_or xs i d ≡ get_or xs j d)
  no_repeat_at [] d n i j l h e = not-suc-le-zero h
  no_repeat_at (x ∷ xs) d n i zero l h e = not-suc-le-zero l
  no_repeat_at (x ∷ xs) d n zero (suc j) l h e = n.0 (Memᴰ.cast e (member_at xs d j (le_of_suc-le-suc h)))
  no_repeat_at (x ∷ xs) d n (suc i) (suc j) l h e =
      no_repeat_at xs d n.1 i j (le_of_suc-le-suc l) (le_of_suc-le-suc h) e

  -- two lists, told apart by P
  pub no_repeat_append : (P : A → Type 0) (xs ys : List A) → NoRepeat xs → NoRepeat ys → Each P xs
      → Each (λ y. ¬ P y) ys → NoRepeat (xs ++ ys)
  no_repeat_append P [] ys n k ps qs = k
  no_repeat_append P (x ∷ xs) ys n k ps qs = (
    λ m. ⊎_elim n.0 (λ i. qs x i (ps x (Memᴰ.head refl))) (Memᴰ.append_cases xs m),
    no_repeat_append P xs ys n.1 k (λ y m. ps y (Memᴰ.tail m)) qs,
  )

  -- a list mapped by an injective function
  pub no_repeat_map : {B : Type 0} (f : B → A) → ((x y : B) → f x ≡ f y → x ≡ y) → (xs : List B) → NoRepeat xs
      → NoRepeat (map f xs)
  no_repeat_map f injective [] n = tt
  no_repeat_map f injective (x ∷ xs) n = (
    λ m. let r = Memᴰ.of_map f xs m in n.0 (Memᴰ.cast (injective x r.0 (sym r.2)) r.1),
    no_repeat_map f injective xs n.1,
  )

  no_repeat_concat : (key : A → ℕ) (f : ℕ → List A) → ((k : ℕ) → NoRepeat (f k))
      → ((k : ℕ) → Each (λ x. key x ≡ k) (f k))
      → (ks : List ℕ) → NoRepeat ks → NoRepeat (concat (map f ks))
  unfolding concat
  no_repeat_concat key f ns keys [] n = tt
  no_repeat_concat key f ns keys (k ∷ ks) n = no_repeat_append (λ x. ¬ Memᴰ (key x) ks) (f k) _
      (ns k) (no_repeat_concat key f ns keys ks n.1)
      (λ x m i. n.0 (Memᴰ.cast (sym (keys k x m)) i))
      (each_concat _ _ (each_map _ f ks (λ l i x m out. out (Memᴰ.cast (keys l x m) i))))

-- numbers that are told apart by their places
no_repeat_tabulate : (n : ℕ) (f : ℕ → ℕ) → ((i j : ℕ) → f i ≡ f j → i ≡ j) → NoRepeat (tabulate n f)
unfolding tabulate
no_repeat_tabulate zero f injective = tt
no_repeat_tabulate (suc n) f injective = (
  λ m. let r = tabulate_member n (λ k. f (suc k)) m in omega (arith, injective zero (suc r.0) r.2),
  no_repeat_tabulate n (λ k. f (suc k)) (λ i j e. omega (arith, injective (suc i) (suc j) e)),
)

-- an element for each number
pub no_repeat_each : {A : Type 0} (n : ℕ) (f : ℕ → A) → ((i j : ℕ) → f i ≡ f j → i ≡ j) → NoRepeat (map f (below n))
no_repeat_each n f injective = no_repeat_map f injective (below n) (no_repeat_tabulate n (λ k. k) (λ i j e. e))

-- a list for each number, told apart by the number, which is each element's key
pub no_repeat_over : {A : Type 0} (n : ℕ) (key : A → ℕ) (f : ℕ → List A) → ((k : ℕ) → NoRepeat (f k))
    → ((k : ℕ) → Each (λ x. key x ≡ k) (f k))
    → NoRepeat (concat (map f (below n)))
no_repeat_over n key f ns keys = no_repeat_concat key f ns keys (below n) (no_repeat_tabulate n (λ k. k) (λ i j e. e))

-- the steps out of a state, counted from j on
pub no_repeat_out : (j : ℕ) (xs : List Step) (s : ℕ) → NoRepeat (out_of j xs s)
unfolding out_of
no_repeat_out j [] s = tt
no_repeat_out j (x ∷ xs) s = go (eqb x.from s) (no_repeat_out (suc j) xs s)
  where
    go : (b : Bool) → NoRepeat (out_of (suc j) xs s) → NoRepeat (cond b (j ∷ out_of (suc j) xs s) (out_of (suc j) xs s))
    go true n = (λ m. let r = out_place (suc j) xs s j m in omega (arith, r.2), n)
    go false n = n
