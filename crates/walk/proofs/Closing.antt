-- What the code learns of a closure that it worked out: whether it clashes, and else what its marks know of the steps.
use Prim.Native.Nat.{ℕ, ◌<◌}
use mathlib.Core.Path.{◌≡◌, refl, sym, ap, ◌∙◌}
use mathlib.Core.Bool.{Bool, true, false, not, false≢true}
use mathlib.Core.Logic.{◌↔◌}
use mathlib.Core.List.{List}
use lib.ListN.{length}
use Rattle.table.specs.Table.{Table}
use Rattle.table.specs.Facts.{Wellformed}
use Rattle.circuit.specs.Logic.{Literal}
use Rattle.closure.specs.Computed.{Marks, mark_at, known, Progress, clash, marked}
use Rattle.propagate.specs.Memory.{Memory}
use Rattle.std.specs.Prelude.{Option, Some, None, is_some, unwrap_or}
use Rattle.closure.specs.Closes.{step_known, is_failed, settled_of, Closes}
use Rattle.search.specs.Fine.{Fine, closure_of, step_literals}
use Rattle.search.proofs.StepClosure.{clash_exact, mark_exact}

module _ (T : Table) (wf : Wellformed T) (P : List (Literal ℕ)) (fine : Fine (length T.steps) P)
    (c : Option ℕ) (M : Memory) (closes : Closes T (step_literals P) c M) where
  pub closed_clash : (is_failed c ≡ true) ↔ (closure_of T P ≡ clash)
  closed_clash =
      let exact = clash_exact T wf P fine in
      (λ e. exact.1 (closes.fails_exact.0 e), λ e. closes.fails_exact.1 (exact.0 e))

  -- where it does not fail, it has marks
  pub closed_marked : is_failed c ≡ false → (m : Marks) × (new : Bool) × (closure_of T P ≡ marked m new)
  closed_marked e = go (closure_of T P) refl
    where
      go : (p : Progress) → closure_of T P ≡ p → (m : Marks) × (new : Bool) × (closure_of T P ≡ marked m new)
      go clash q = absurd (false≢true (sym e ∙ closed_clash.1 q))
      go (marked m new) q = (m, new, q)

  -- and the step rows have what they know
  pub closed_exact : is_failed c ≡ false → {m : Marks} {new : Bool} → closure_of T P ≡ marked m new
      → (i : ℕ) (sign : Bool) → i < length T.steps → (step_known T M.rows sign i ≡ true) ↔ (mark_at m i ≡ known sign)
  closed_exact e q i sign h =
      let rows = closes.exact e i sign h in
      let marks = mark_exact T wf P fine q i sign h in
      (λ k. marks.1 (rows.0 k), λ k. rows.1 (marks.0 k))

-- it fails where there is no number
pub failed_by : (c : Option ℕ) {x y : Bool} → is_some c ≡ not x → x ≡ y → is_failed c ≡ not (not y)
failed_by None p q = ap not p ∙ ap (λ (x : Bool). not (not x)) q
failed_by (Some k) p q = ap not p ∙ ap (λ (x : Bool). not (not x)) q

-- the number, 0 where it fails
pub number_of : (c : Option ℕ) → unwrap_or c 0 ≡ settled_of c
number_of None = refl
number_of (Some k) = refl
