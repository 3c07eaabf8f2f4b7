-- One literal more: the closure keeps what is given and grows, and a literal of an unknown variable contradicts
-- nothing given.
use Prim.Native.Nat.{ℕ, ◌<◌}
use mathlib.Core.Path.{◌≡◌, sym, ap, subst, ◌∙◌}
use mathlib.Core.Bool.{Bool}
use mathlib.Core.Logic.{◌⊎◌, inl, inr}
use mathlib.Core.List.Memᴰ
use mathlib.Core.List.{List, ◌∷◌, Memᴰ}
use Rattle.circuit.specs.Logic.{Literal, opposite}
use Rattle.closure.specs.Closure.{given}
use Rattle.closure.specs.Computed.{Marks, unknown, known, mark_at, marked, closure}
use Rattle.closure.specs.Given.{VariablesBelow, ClausesBelow, Consistent}
use Rattle.closure.proofs.Forced.{not_both, forced_monotone}
use Rattle.closure.proofs.Marks.{holds_known}
use Rattle.closure.proofs.Computed.{held_forced, forced_held}

-- what the closure holds stays held with one literal more
pub closure_grows : (size : ℕ) (F : List (List (Literal ℕ))) (P : List (Literal ℕ)) (l : Literal ℕ)
    → ClausesBelow size F → Consistent (l ∷ P) → VariablesBelow size (l ∷ P) → {m m' : Marks} {b b' : Bool}
    → closure size F P ≡ marked m b → closure size F (l ∷ P) ≡ marked m' b'
    → {v : ℕ} {x : Bool} → mark_at m v ≡ known x → v < size → mark_at m' v ≡ known x
closure_grows size F P l inside consistent within e e' {v} {x} h _ =
    forced_held size F (l ∷ P) inside consistent within e'
    (forced_monotone (λ k. Memᴰ.tail) (held_forced size F P e (record { sign = x; var = v }) h))

-- a literal of a variable below size may be added
pub within_more : (size : ℕ) (P : List (Literal ℕ)) (l : Literal ℕ) → l.var < size → VariablesBelow size P
    → VariablesBelow size (l ∷ P)
within_more size P l below within k (Memᴰ.head e) = subst (λ (x : Literal ℕ). x.var < size) (sym e) below
within_more size P l below within k (Memᴰ.tail h) = within k h

module _ (size : ℕ) (F : List (List (Literal ℕ))) (P : List (Literal ℕ))
    (inside : ClausesBelow size F) (consistent : Consistent P) (within : VariablesBelow size P) where
  -- what is given is held
  pub closure_keeps : {m : Marks} {b : Bool} → closure size F P ≡ marked m b
      → {l : Literal ℕ} → Memᴰ l P → mark_at m l.var ≡ known l.sign
  closure_keeps e h = forced_held size F P inside consistent within e (given h)

  -- a literal of an unknown variable contradicts none of the given ones
  pub consistent_more : {m : Marks} {b : Bool} → closure size F P ≡ marked m b
      → (l : Literal ℕ) → mark_at m l.var ≡ unknown → Consistent (l ∷ P)
  consistent_more {m} e l free k h o = go (Memᴰ.cases_cons h) (Memᴰ.cases_cons o)
    where
      -- no given literal is of the variable
      new : (j : Literal ℕ) → j.var ≡ l.var → ¬ Memᴰ j P
      new j same h = holds_known m j (closure_keeps e h) (ap (mark_at m) same ∙ free)

      go : (k ≡ l) ⊎ Memᴰ k P → (opposite k ≡ l) ⊎ Memᴰ (opposite k) P → ⊥
      go (inl p) (inl q) = not_both (ap (λ (x : Literal ℕ). x.sign) (sym p)) (ap (λ (x : Literal ℕ). x.sign) (sym q))
      go (inl p) (inr o) = new (opposite k) (ap (λ (x : Literal ℕ). x.var) p) o
      go (inr h) (inl q) = new k (ap (λ (x : Literal ℕ). x.var) q) h
      go (inr h) (inr o) = consistent k h o
