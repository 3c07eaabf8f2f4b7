-- `reached_set` computes the reached states.
use Prim.Native.Nat.{ℕ, zero, suc, ◌≤◌, ◌<◌, zero-le, suc-le-suc}
use mathlib.Core.Path.{◌≡◌, sym, ap, ◌∙◌}
use mathlib.Core.Bool.{Bool, true, false, ◌||◌, and-eq-true_iff}
use mathlib.Core.Logic.Iff
use mathlib.Core.Logic.{◌↔◌, ⊎_elim}
use mathlib.Core.List.Memᴰ
use mathlib.Core.List.{List, map, Memᴰ}
use borrow.Author.Tests.{eqb-true, eq-eqb}
use lib.Dec.{eqb}
use lib.ListN.{length}
use Rattle.table.specs.declared.operator.Family.TheVariants.{Eventually}
use Rattle.table.specs.declared.record.Step.{Step}
use Rattle.table.specs.Table.{Table, state_at}
use Rattle.table.specs.Facts.{Wellformed}
use Rattle.table.proofs.Bools.{or_parts, or_left, or_right}
use Rattle.ctl.specs.Rule.{some}
use Rattle.ctl.specs.Kept.{Next, Kept, ReachedIn, Reached}
use Rattle.ctl.specs.Levels.{has, iterate, next_in, level, levels}
use Rattle.ctl.specs.Labels.{kept_steps}
use Rattle.ctl.specs.Reached.{is_initial_kept, start_set, reversed, sources, reached_set, is_reached}
use Rattle.ctl.proofs.Tabulate.{length_tabulate, get_d_tabulate, any-true}
use Rattle.ctl.proofs.Stable.{has_inside, level_mark, level_inside, levels_fixed}
use Rattle.ctl.proofs.Targets.{kept_step_next, next_kept_step, ends_step, step_ends, is_kept_lem, next_inside}

eqb_iff : (a b : ℕ) → (eqb a b ≡ true) ↔ (a ≡ b)
eqb_iff a b = (eqb-true a b, eq-eqb a b)

pub initial_kept : (T : Table) (list : List ℕ) (s : ℕ)
    → (is_initial_kept T list s ≡ true) ↔ (((state_at T s).initial ≡ 1) × Kept T list s)
initial_kept T list s = Iff.trans (and-eq-true_iff _ _) (Iff.and (eqb_iff _ 1) (is_kept_lem T list s))

-- the sources of t are the states from which a kept step leads to t
pub source_next : (T : Table) (list : List ℕ) (s t : ℕ) → Memᴰ s (sources T list t) ↔ Next T list s t
source_next T list s t = (
  λ m.
      let r = ends_step (map reversed (kept_steps T.steps list)) t m in
      let x = Memᴰ.of_map reversed (kept_steps T.steps list) r.1 in
      rw (ap (λ (y : Step). y.to) x.2 ∙ r.3, ap (λ (y : Step). y.from) x.2 ∙ r.2) at (kept_step_next T list x.0 x.1),
  λ h. let r = next_kept_step T list s t h in step_ends t s (Memᴰ.map reversed r.1) r.3 r.2,
)

-- a kept step leads on
pub reached_on : (T : Table) (list : List ℕ) (s t : ℕ) → Reached T list s → Next T list s t → Reached T list t
unfolding ReachedIn
reached_on T list s t r h = (suc r.0, (s, r.1, h))

module _ (T : Table) (wf : Wellformed T) (list : List ℕ) where
  -- a set of states, with the kept initial ones and those that a kept step leads to from it
  abbrev grown : List Bool → List Bool
  grown X = level Eventually some (sources T list) (length T.states) (start_set T list) (start_set T list) X

  start_mark : (s : ℕ) → s < length T.states → has (start_set T list) s ≡ is_initial_kept T list s
  start_mark s h = get_d_tabulate (length T.states) (is_initial_kept T list) s false h

  start_reached : (s : ℕ) → has (start_set T list) s ≡ true → ReachedIn T list zero s
  unfolding ReachedIn
  start_reached s e =
      let h = rw length_tabulate at (has_inside (start_set T list) s e) in
      let r = (initial_kept T list s).0 (sym (start_mark s h) ∙ e) in
      ((h, r.0), r.1)

  -- what is in level m is reached by at most m steps
  level_reached : (m s : ℕ) → has (iterate grown (start_set T list) m) s ≡ true
      → (k : ℕ) × (k ≤ m) × ReachedIn T list k s
  unfolding iterate next_in ReachedIn
  level_reached zero s e = (zero, zero-le, start_reached s e)
  level_reached (suc m) s e =
      let h = level_inside Eventually some (sources T list) _ _ _ _ s e in
      ⊎_elim (λ i. (zero, zero-le, start_reached s i))
      (λ a.
      let r = (any-true (has (iterate grown (start_set T list) m)) (sources T list s)).0 a in
      let b = level_reached m r.0 r.2 in
      (suc b.0, suc-le-suc b.1, (r.0, b.2, (source_next T list r.0 s).0 r.1)))
      (or_parts _ _ (sym (level_mark Eventually some (sources T list) _ _ _ _ s h) ∙ e))

  -- a state of the last level, or to which a kept step leads from it, is in it, since it is a fixed point
  in_last : (s : ℕ) → s < length T.states
      → has (start_set T list) s || next_in some (reached_set T list) (sources T list s) ≡ true
      → is_reached T list s ≡ true
  unfolding reached_set
  in_last s h e =
      sym (ap (λ (X : List Bool). has X s) (levels_fixed Eventually some (sources T list) _ _ _ (length_tabulate _ _)))
      ∙ level_mark Eventually some (sources T list) _ _ _ _ s h ∙ e

  last_has : (k s : ℕ) → ReachedIn T list k s → is_reached T list s ≡ true
  unfolding ReachedIn next_in
  last_has zero s r = in_last s r.0.0 (or_left _ _ (start_mark s r.0.0 ∙ (initial_kept T list s).1 (r.0.1, r.1)))
  last_has (suc k) t r = in_last t (next_inside T wf list r.0 t r.2).1
      (or_right (has (start_set T list) t) _
      ((any-true (has (reached_set T list)) (sources T list t)).1
      (r.0, (source_next T list r.0 t).1 r.2, last_has k r.0 r.1)))

  pub is_reached_lem : (s : ℕ) → (is_reached T list s ≡ true) ↔ Reached T list s
  unfolding reached_set levels
  is_reached_lem s = (λ e. let r = level_reached (length T.states) s e in (r.0, r.2), λ r. last_has r.0 s r.1)

  -- n steps are enough
  pub reached_soon : (s : ℕ) → Reached T list s → (k : ℕ) × (k ≤ length T.states) × ReachedIn T list k s
  unfolding reached_set levels
  reached_soon s r = level_reached (length T.states) s (last_has r.0 s r.1)
