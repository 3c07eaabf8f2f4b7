-- How many steps are unsettled: fewer after each choice. The tries end by this.
use Prim.Native.Nat.{ℕ, ◌<◌}
use mathlib.Core.Path.{◌≡◌, refl, sym, ap, ◌∙◌}
use mathlib.Core.Bool.{Bool, true, false, not, true≢false}
use mathlib.Core.List.{List, ◌∷◌}
use lib.ListN.{length}
use Rattle.sets.specs.Member.{count_of}
use Rattle.sets.proofs.SetOf.{count_of_less}
use Rattle.table.specs.Table.{Table}
use Rattle.table.specs.Facts.{Wellformed}
use Rattle.circuit.specs.Logic.{Literal}
use Rattle.closure.specs.Computed.{Mark, Marks, mark_at, is_known}
use Rattle.closure.proofs.Marks.{known_of}
use Rattle.search.specs.StepRows.{is_unsettled}
use Rattle.walk.specs.Stands.{StandsAt}
use Rattle.walk.proofs.StepMarks.{unsettled_mark}
use Rattle.search.proofs.ClosureRight.{closure-is_right}

-- ---- unsettled steps

abbrev pub unsettled_steps : Table → List ℕ → ℕ
unsettled_steps T rows = count_of (length T.steps) (is_unsettled T rows)

-- the step that was unsettled is settled by its choice, and settled ones stay so
module _ (T : Table) (wf : Wellformed T) (j k : ℕ) (rows next : List ℕ) (P : List (Literal ℕ)) (m n : Marks)
    (sign : Bool)
    (at : StandsAt T j rows P m) (to : StandsAt T k next (record { sign = sign; var = j } ∷ P) n) where
  unsettled_at : (i : ℕ) → i < length T.steps → is_unsettled T rows i ≡ not (is_known (mark_at m i))
  unsettled_at = unsettled_mark T rows m at.exact

  unsettled_to : (i : ℕ) → i < length T.steps → is_unsettled T next i ≡ not (is_known (mark_at n i))
  unsettled_to = unsettled_mark T next n to.exact

  stays : (i : ℕ) → i < length T.steps → is_unsettled T next i ≡ true → is_unsettled T rows i ≡ true
  stays i h e = go (is_known (mark_at m i)) refl
    where
      go : (b : Bool) → is_known (mark_at m i) ≡ b → is_unsettled T rows i ≡ true
      go true q =
          let r = known_of (mark_at m i) q in
          let still = (closure-is_right T wf).grows at.fine to.fine at.closed to.closed i r.0 h r.1 in
          absurd (true≢false (sym e ∙ unsettled_to i h ∙ ap (λ (x : Mark). not (is_known x)) still))
      go false q = unsettled_at i h ∙ ap not q

  pub unsettled_falls : unsettled_steps T next < unsettled_steps T rows
  unsettled_falls = count_of_less (is_unsettled T rows) (is_unsettled T next) (length T.steps) stays j at.inside
      (unsettled_at j at.inside ∙ ap not at.unsettled)
      (unsettled_to j at.inside ∙ ap (λ (x : Mark). not (is_known x)) ((closure-is_right T wf).keeps to.fine to.closed))
