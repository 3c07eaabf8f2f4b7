-- The function computes the closure: it clashes exactly when the closure fails, and else its marks hold exactly the
-- forced literals.
use Prim.Native.Nat.{ℕ, suc, ◌≤◌, ◌<◌}
use mathlib.Core.Path.{◌≡◌, refl, sym, subst}
use mathlib.Core.Bool.{Bool}
use mathlib.Core.Logic.{◌↔◌, ⊎_elim}
use mathlib.Core.List.{List, Memᴰ}
use Rattle.circuit.specs.Logic.{Literal, opposite}
use Rattle.closure.specs.Closure.{Forced, given, unit, Fails}
use Rattle.closure.specs.Computed.{Marks, known, mark_at, Progress, clash, marked, closure, marks_of}
use Rattle.closure.specs.Given.{Given, VariablesBelow, ClausesBelow, Consistent}
use Rattle.closure.proofs.Forced.{forced_least}
use Rattle.closure.proofs.Marks.{Holds, holds_once, holding-only, holding_keeps, unknowns, unknowns_le}
use Rattle.closure.proofs.Given.{given_length, given_only, given_held}
use Rattle.closure.proofs.Clause.{Against}
use Rattle.closure.proofs.Rounds.{AtEnd, Step, rounds_at_end}
use Rattle.closure.proofs.Rest.{Rest, rounds_rest}

module _ (size : ℕ) (F : List (List (Literal ℕ))) (P : List (Literal ℕ)) where
  -- what is so of the given marks and kept by each new mark is so of the closure
  closure_at_end : (I : Marks → Type 0) → Step F (λ m new. I m) → I (marks_of size P)
      → AtEnd F (λ m new. I m) (closure size F P)
  closure_at_end I step = rounds_at_end F (λ m new. I m) step (λ m new i. i) (suc size) (marks_of size P)

  -- ---- nothing is marked that is not forced

  abbrev Sound : Marks → Type 0
  Sound m = (l : Literal ℕ) → Holds m l → Forced F (Given P) l

  sound_step : Step F (λ m new. Sound m)
  sound_step C c m new sound l h alone free k held = ⊎_elim
      (λ e. subst (Forced F (Given P)) (sym e) (unit C c h (λ j n d. sound (opposite j) (alone j n d))))
      (sound k)
      (holding-only m l k held)

  closure_sound : AtEnd F (λ m new. Sound m) (closure size F P)
  closure_sound = closure_at_end Sound sound_step (λ l h. given (given_only size P l h))

  -- a literal that the closure holds is forced
  pub held_forced : {m : Marks} {b : Bool} → closure size F P ≡ marked m b → (l : Literal ℕ) → Holds m l
      → Forced F (Given P) l
  held_forced e = subst (AtEnd F (λ m new. Sound m)) e closure_sound

  -- where it clashes, the closure fails
  pub clash_fails : closure size F P ≡ clash → Fails F (Given P)
  clash_fails e = go (subst (AtEnd F (λ m new. Sound m)) e closure_sound)
    where
      go : (C : List (Literal ℕ)) × Memᴰ C F × (m : Marks) × (new : Bool) × Sound m × Against (Holds m) C
          → Fails F (Given P)
      go (C, c, m, new, sound, (l, h, against)) =
          (l, unit C c h (λ k n d. sound (opposite k) (against k n)), sound (opposite l) (against l h))

  -- ---- what is given stays

  abbrev Keeps : Marks → Type 0
  Keeps m = (l : Literal ℕ) → Holds (marks_of size P) l → Holds m l

  start_kept_lem : {m : Marks} {b : Bool} → closure size F P ≡ marked m b → Keeps m
  start_kept_lem e = subst (AtEnd F (λ m new. Keeps m)) e
      (closure_at_end Keeps (λ C c m new keeps l h alone free k held. holding_keeps m l k free (keeps k held))
      (λ l h. h))

-- ---- all that is forced is marked

module _ (size : ℕ) (F : List (List (Literal ℕ))) (P : List (Literal ℕ))
    (inside : ClausesBelow size F) (consistent : Consistent P) (within : VariablesBelow size P) where
  closure_rest : {m : Marks} {b : Bool} → closure size F P ≡ marked m b → Rest F m
  closure_rest {m} {b} e = rounds_rest size F inside size (marks_of size P) m b (given_length size P) few e
    where
      few : unknowns (marks_of size P) ≤ size
      few = subst (λ n. unknowns (marks_of size P) ≤ n) (given_length size P) (unknowns_le (marks_of size P))

  -- a literal that is forced is held
  pub forced_held : {m : Marks} {b : Bool} → closure size F P ≡ marked m b → {l : Literal ℕ} → Forced F (Given P) l
      → Holds m l
  forced_held e =
      forced_least (λ l h. start_kept_lem size F P e l (given_held size P within consistent l h)) (closure_rest e)

  -- it clashes exactly when the closure fails
  pub closure_fails : (closure size F P ≡ clash) ↔ Fails F (Given P)
  closure_fails = (clash_fails size F P, λ f. go f (closure size F P) refl)
    where
      go : Fails F (Given P) → (p : Progress) → closure size F P ≡ p → closure size F P ≡ clash
      go f clash e = e
      go (l, one, other) (marked m b) e = absurd (holds_once m l (forced_held e one) (forced_held e other))

  -- where it does not clash, the marks hold exactly the forced literals
  pub closure_holds : (m : Marks) (b : Bool) → closure size F P ≡ marked m b → (l : Literal ℕ) → l.var < size
      → (mark_at m l.var ≡ known l.sign) ↔ Forced F (Given P) l
  closure_holds m b e l _ = (held_forced size F P e l, forced_held e)
