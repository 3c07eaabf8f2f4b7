-- The computed number of settled variables is that of the closure, and no other number is.
use Prim.Native.Nat.{ℕ, ◌≤◌, ◌<◌}
use native.Mathlib.Omega.{arith}
use mathlib.Core.Path.{◌≡◌, refl, sym, ap, ◌∙◌}
use mathlib.Core.Bool.{Bool, true}
use mathlib.Core.Logic.{◌↔◌}
use mathlib.Core.List.{List}
use Rattle.sets.proofs.SetOf.{count_of_cong}
use Rattle.table.proofs.Bools.{same_test}
use Rattle.circuit.specs.Logic.{Literal}
use Rattle.closure.specs.Closure.{Forced, Fails}
use Rattle.closure.specs.Computed.{known, Marks, mark_at, is_known, Progress, clash, marked, closure, settled_below}
use Rattle.closure.specs.Given.{Given, VariablesBelow, ClausesBelow, Consistent}
use Rattle.closure.specs.Settled.{HowMany, Settles, CountsSettled}
use Rattle.closure.proofs.Marks.{known_of}
use Rattle.closure.proofs.Rest.{clash_marked}
use Rattle.closure.proofs.Computed.{closure_fails, closure_holds}

module _ (size : ℕ) (F : List (List (Literal ℕ))) (P : List (Literal ℕ))
    (inside : ClausesBelow size F) (consistent : Consistent P) (within : VariablesBelow size P) (e : ℕ)
    (some : e ≤ size) where
  module _ {m : Marks} {new : Bool} (q : closure size F P ≡ marked m new) where
    mark_forced : (j : ℕ) (sign : Bool) → j < e
        → (mark_at m j ≡ known sign) ↔ Forced F (Given P) (record { sign = sign; var = j })
    mark_forced j sign h =
        closure_holds size F P inside consistent within m new q (record { sign = sign; var = j }) (omega arith)

    known_settles : (j : ℕ) → j < e → (is_known (mark_at m j) ≡ true) ↔ Settles F (Given P) j
    known_settles j h = (
      λ k. let r = known_of (mark_at m j) k in (r.0, (mark_forced j r.0 h).0 r.1),
      λ s. ap is_known ((mark_forced j s.0 h).1 s.1),
    )

    marked_holds : ¬ Fails F (Given P)
    marked_holds f = clash_marked (sym ((closure_fails size F P inside consistent within).1 f) ∙ q)

  pub settled_right : CountsSettled F (Given P) (λ j. j) e (settled_below e (closure size F P))
  settled_right = go (closure size F P) refl
    where
      go : (p : Progress) → closure size F P ≡ p → CountsSettled F (Given P) (λ j. j) e (settled_below e p)
      go clash q = record {
        failed = λ _. refl;
        counted = λ n. absurd (n ((closure_fails size F P inside consistent within).0 q));
      }
      go (marked m new) q = record {
        failed = λ f. absurd (marked_holds q f);
        counted = λ _. (λ j. is_known (mark_at m j), known_settles q, refl);
      }

  pub settled_only : (count : ℕ) → CountsSettled F (Given P) (λ j. j) e count
      → count ≡ settled_below e (closure size F P)
  settled_only count s = go (closure size F P) refl
    where
      go : (p : Progress) → closure size F P ≡ p → count ≡ settled_below e p
      go clash q = s.failed ((closure_fails size F P inside consistent within).0 q)
      go (marked m new) q =
          let r : HowMany e (Settles F (Given P)) count = s.counted (marked_holds q) in
          r.2 ∙ count_of_cong e r.0 (λ j. is_known (mark_at m j))
          (λ j h. same_test _ _ (λ t. (known_settles q j h).1 ((r.1 j h).0 t))
          (λ t. (r.1 j h).1 ((known_settles q j h).0 t)))
