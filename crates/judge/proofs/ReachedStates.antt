-- With the kept next states as rows and the kept initial states as starts, the least closed set is that of the
-- reached states.
use Prim.Native.Nat.{ℕ, zero, suc, ◌<◌}
use mathlib.Core.Path.{◌≡◌, sym, ap, ◌∙◌}
use mathlib.Core.Bool.{true}
use mathlib.Core.Logic.{◌↔◌}
use mathlib.Core.List.{List}
use native.Mathlib.Nat.{lt_of_lt_of_le}
use lib.ListN.{length, get_or}
use Rattle.sets.specs.Member.{member, set_of}
use Rattle.sets.proofs.SetOf.{in_set, set_of_unique}
use Rattle.table.specs.Table.{Table}
use Rattle.table.specs.Rows.{target_sets}
use Rattle.table.specs.Facts.{Wellformed}
use Rattle.table.proofs.Bools.{same_test}
use Rattle.table.proofs.TargetSets.{targets_rows}
use Rattle.ctl.specs.Kept.{Initial, Kept, ReachedIn, Next}
use Rattle.ctl.specs.Labels.{kept_steps}
use Rattle.ctl.specs.Reached.{is_initial_kept, is_reached}
use Rattle.ctl.proofs.Targets.{targets_sound, targets_complete, next_inside}
use Rattle.ctl.proofs.Reached.{initial_kept, reached_on, is_reached_lem}
use Rattle.label.proofs.Next.{KeptRows, row-member}
use Rattle.judge.specs.Reached.{ClosedUnderNext, Least}
use Rattle.judge.proofs.Starts.{inside}

module _ (T : Table) (wf : Wellformed T) (list rows : List ℕ) (rows_are : rows ≡ target_sets (kept_steps T.steps list))
    (starts : ℕ) (starts_are : starts ≡ set_of 32 (is_initial_kept T list)) where
  kept_rows : KeptRows T list rows
  kept_rows = record { table = wf; steps = rw rows_are (targets_rows (kept_steps T.steps list)) }

  row_next_lem : (s t : ℕ) → s < 32 → t < 32 → (member (get_or rows s 0) t ≡ true) ↔ Next T list s t
  row_next_lem s t hs ht = (
    λ e. targets_sound T list s t ((row-member kept_rows s t hs ht).0 e),
    λ n. (row-member kept_rows s t hs ht).1 (targets_complete T list s t n),
  )

  state_below : (s : ℕ) → s < length T.states → s < 32
  state_below s h = lt_of_lt_of_le h wf.few_states

  in_starts : (s : ℕ) → (member starts s ≡ true) ↔ (Initial T s × Kept T list s)
  in_starts s = (
    λ e.
        let i = ((in_set 32 (is_initial_kept T list) s).0 (sym (ap (λ (w : ℕ). member w s) starts_are) ∙ e)).1 in
        let r = (initial_kept T list s).0 i in
        ((inside T wf list s i, r.0), r.1),
    λ r. ap (λ (w : ℕ). member w s) starts_are
        ∙ (in_set 32 (is_initial_kept T list) s).1 (state_below s r.0.0, (initial_kept T list s).1 (r.0.1, r.1)),
  )

  -- the set of the reached states is closed
  reached_closed : ClosedUnderNext rows starts (set_of 32 (is_reached T list))
  unfolding ReachedIn
  reached_closed = record {
    begins = λ s e. let r = (in_starts s).0 e in
        (in_set 32 _ s).1 (state_below s r.0.0, (is_reached_lem T wf list s).1 (zero, r));
    goes_on = λ s t l e row.
        let r = (in_set 32 (is_reached T list) s).0 e in
        (in_set 32 _ t).1 (
          l,
          (is_reached_lem T wf list t).1
              (reached_on T list s t ((is_reached_lem T wf list s).0 r.1) ((row_next_lem s t r.0 l).0 row)),
        );
  }

  -- and each closed set has them
  closed_reached : (X : ℕ) → ClosedUnderNext rows starts X → (k s : ℕ) → ReachedIn T list k s → member X s ≡ true
  unfolding ReachedIn
  closed_reached X c zero s r = c.begins s ((in_starts s).1 r)
  closed_reached X c (suc k) t r =
      let i = next_inside T wf list r.0 t r.2 in
      let l = state_below t i.1 in
      c.goes_on r.0 t l (closed_reached X c k r.0 r.1) ((row_next_lem r.0 t (state_below r.0 i.0) l).1 r.2)

  pub reached_word : (w : ℕ) → Least rows starts w → w ≡ set_of 32 (is_reached T list)
  reached_word w L = set_of_unique 32 (is_reached T list) w L.small (λ s h. same_test (member w s) (is_reached T list s)
      (λ e. ((in_set 32 (is_reached T list) s).0 (L.least _ reached_closed s e)).1)
      (λ e. let r = (is_reached_lem T wf list s).0 e in closed_reached w L.closed r.0 s r.1))
