-- Lists of gates in order: the inputs of each are known, or outputs of gates before it.
use Prim.Native.Nat.{ℕ, zero, suc, ◌<◌, suc-le-suc}
use native.Mathlib.Nat.{not-suc-le-zero, le_of_suc-le-suc}
use native.Mathlib.Omega.{arith}
use mathlib.Core.Path.{◌≡◌, refl, sym, subst}
use mathlib.Core.Logic.{◌⊎◌, inl, inr, ⊎_elim, ⊎_map}
use mathlib.Core.List.Memᴰ
use mathlib.Core.List.{List, [], ◌∷◌, ◌++◌, map, Memᴰ}
use Rattle.ctl.specs.Range.{tabulate, below}
use Rattle.circuit.specs.Variables.{Var, concat}
use Rattle.circuit.specs.Gates.{Defined}
use Rattle.circuit.proofs.Lists.{Each, each_none, each_more}
use Rattle.circuit.proofs.Gate.{Reads}
use Rattle.circuit.proofs.Outputs.{outputs}

-- the inputs of each gate are in K, or outputs of gates before it
abbrev pub Follows : (Var → Type 0) → List Defined → Type 0
Follows K [] = Unit
Follows K (d ∷ ds) = Reads K d.gate × Follows (λ v. K v ⊎ (v ≡ d.output)) ds

-- in K, or an output of the gates
abbrev pub After : (Var → Type 0) → List Defined → Var → Type 0
After K ds v = K v ⊎ Memᴰ v (outputs ds)

-- what follows K follows whatever has more
pub follows_more : (K L : Var → Type 0) → ((v : Var) → K v → L v) → (ds : List Defined) → Follows K ds → Follows L ds
follows_more K L up [] f = tt
follows_more K L up (d ∷ ds) f = (λ l m. up l.var (f.0 l m), follows_more _ _ (λ v. ⊎_map (up v) (λ e. e)) ds f.1)

-- the gates of a list, and then those of another
pub follows_append : (K : Var → Type 0) (xs ys : List Defined) → Follows K xs → Follows (After K xs) ys
    → Follows K (xs ++ ys)
follows_append K [] ys f g = follows_more (After K []) K (λ v. ⊎_elim (λ k. k) (λ m. absurd (Memᴰ.not-nil m))) ys g
follows_append K (x ∷ xs) ys f g = (
  f.0,
  follows_append _ xs ys f.1 (follows_more (After K (x ∷ xs)) _ (λ v. regroup) ys g),
)
  where
    regroup : {v : Var} → K v ⊎ Memᴰ v (x.output ∷ outputs xs) → (K v ⊎ (v ≡ x.output)) ⊎ Memᴰ v (outputs xs)
    regroup (inl k) = inl (inl k)
    regroup (inr m) = ⊎_map inr (λ i. i) (Memᴰ.cases_cons m)

-- gates for each number: those of k may read those of the numbers before k
pub follows_tabulate : (K : Var → Type 0) (n : ℕ) (F : ℕ → List Defined) (g : ℕ → ℕ)
    → ((k : ℕ) → k < n → Follows (λ v. K v ⊎ ((j : ℕ) × (j < k) × Memᴰ v (outputs (F (g j))))) (F (g k)))
    → Follows K (concat (map F (tabulate n g)))
unfolding concat tabulate
follows_tabulate K zero F g f = tt
follows_tabulate K (suc n) F g f = follows_append K (F (g zero)) _
    (follows_more _ K (λ v. ⊎_elim (λ k. k) (λ r. absurd (not-suc-le-zero r.1))) (F (g zero)) (f zero (omega arith)))
    (follows_tabulate (After K (F (g zero))) n F (λ k. g (suc k)) (λ k h.
    follows_more _ _ (λ v. regroup k) (F (g (suc k))) (f (suc k) (suc-le-suc h))))
  where
    regroup : {v : Var} (k : ℕ) → K v ⊎ ((j : ℕ) × (j < suc k) × Memᴰ v (outputs (F (g j))))
        → After K (F (g zero)) v ⊎ ((j : ℕ) × (j < k) × Memᴰ v (outputs (F (g (suc j)))))
    regroup k (inl i) = inl (inl i)
    regroup k (inr (zero, h, m)) = inl (inr m)
    regroup k (inr (suc j, h, m)) = inr (j, le_of_suc-le-suc h, m)

-- gates for each number, which read none of another number
pub follows_each : (K : Var → Type 0) (n : ℕ) (F : ℕ → List Defined) → ((k : ℕ) → k < n → Follows K (F k))
    → Follows K (concat (map F (below n)))
follows_each K n F f = follows_tabulate K n F (λ k. k) (λ k h. follows_more K _ (λ v. inl) (F k) (f k h))

-- gates that read none of each other
pub follows_flat : (K : Var → Type 0) (ds : List Defined) → Each (λ d. Reads K d.gate) ds → Follows K ds
follows_flat K [] f = tt
follows_flat K (d ∷ ds) f =
    (f d (Memᴰ.head refl), follows_flat _ ds (λ x m l i. inl (f x (Memᴰ.tail m) l i)))

-- What holds of K, and of a gate's output where it holds of the inputs, holds of each output.
pub follows_induction : (K P : Var → Type 0) → ((v : Var) → K v → P v) → (ds : List Defined) → Follows K ds
    → Each (λ d. Reads P d.gate → P d.output) ds → Each (λ d. P d.output) ds
follows_induction K P start [] f closes = each_none _
follows_induction K P start (d ∷ ds) f closes =
    let here : P d.output = closes d (Memᴰ.head refl) (λ l m. start l.var (f.0 l m)) in
    each_more _ d ds here
    (follows_induction _ P (λ v. ⊎_elim (start v) (λ e. subst P (sym e) here)) ds f.1 (λ x m. closes x (Memᴰ.tail m)))

-- each input is in K, or an output
pub follows_inputs : (K : Var → Type 0) (ds : List Defined) → Follows K ds → Each (λ d. Reads (After K ds) d.gate) ds
follows_inputs K [] f = each_none _
follows_inputs K (d ∷ ds) f = each_more _ d ds
    (λ l m. inl (f.0 l m))
    (λ x i l m. ⊎_elim (⊎_map (λ k. k) Memᴰ.head) (λ o. inr (Memᴰ.tail o)) (follows_inputs _ ds f.1 x i l m))
