-- A repair, struck, is a repair in the narrower sense: of the reached states it loses no step, so these are reached
-- as before and the rule means the same at them; of the others it keeps none.
use Prim.Native.Nat.{ℕ, zero, suc, ◌≤◌, ◌<◌, zero-le}
use native.Mathlib.Omega.{arith}
use mathlib.Core.Path.{◌≡◌, refl, sym, ap, ◌∙◌}
use mathlib.Core.Bool.{Bool, true, false, cond}
use mathlib.Core.List.{List}
use lib.ListN.{length, get_or}
use Rattle.table.specs.Table.{Table, step_at}
use Rattle.table.specs.Facts.{Wellformed}
use Rattle.table.proofs.Bools.{not_so}
use Rattle.ctl.specs.Rule.{formula, root_index}
use Rattle.ctl.specs.Kept.{Initial, Labelled, Next, Kept, ReachedIn, Reached, Repair, NarrowRepair}
use Rattle.ctl.specs.Reached.{is_reached, strike}
use Rattle.ctl.specs.Exact.{StrikeIsExact, StrikingNarrows, SensesAgree}
use Rattle.ctl.proofs.Tabulate.{length_tabulate, get_d_tabulate}
use Rattle.ctl.proofs.Reached.{reached_on, is_reached_lem}
use Rattle.ctl.proofs.SameMeaning.{Agree, same_meaning}

module _ (T : Table) (list : List ℕ) where
  pub strike-length : length (strike T list) ≡ length T.steps
  unfolding strike
  strike-length = length_tabulate (length T.steps) _

  -- the byte of a step, struck or as it was
  pub strike_at : (j : ℕ) → j < length T.steps
      → get_or (strike T list) j 0 ≡ cond (is_reached T list (step_at T j).from) (get_or list j 0) 0
  unfolding strike
  strike_at j h = get_d_tabulate (length T.steps) _ j 0 h

-- a byte, or 0
pub bit_or_0 : (b : Bool) (x : ℕ) → x ≤ 1 → cond b x 0 ≤ 1
bit_or_0 true x h = h
bit_or_0 false x h = zero-le

-- a byte that is 1 was so, and was not struck
left_of : (b : Bool) (x : ℕ) → cond b x 0 ≡ 1 → (b ≡ true) × (x ≡ 1)
left_of true x e = (refl, e)
left_of false x e = absurd (omega (arith, e))

module _ (T : Table) (wf : Wellformed T) (list : List ℕ) where
  -- the steps out of reached states are left, and no other
  left_reached : (s t : ℕ) → Next T (strike T list) s t → Next T list s t × Reached T list s
  left_reached s t h =
      let from = (step_at T h.step).from in
      let r = left_of (is_reached T list from) _ (sym (strike_at T list h.step h.listed) ∙ h.kept) in (
        record { step = h.step; listed = h.listed; kept = r.1; leaves = h.leaves; enters = h.enters },
        (is_reached_lem T wf list s).0 (rw h.leaves at r.0),
      )

  reached_left : (s t : ℕ) → Reached T list s → Next T list s t → Next T (strike T list) s t
  reached_left s t r h = record {
    step = h.step;
    listed = h.listed;
    kept = strike_at T list h.step h.listed
        ∙ ap (λ (b : Bool). cond b (get_or list h.step 0) 0)
        (ap (is_reached T list) h.leaves ∙ (is_reached_lem T wf list s).1 r)
        ∙ h.kept;
    leaves = h.leaves;
    enters = h.enters;
  }

  kept_left : (s : ℕ) → Reached T list s → Kept T list s → Kept T (strike T list) s
  kept_left s r k = (k.0, reached_left s k.0 r k.1)

  left_kept : (s : ℕ) → Kept T (strike T list) s → Kept T list s
  left_kept s k = (k.0, (left_reached s k.0 k.1).0)

  start : (s : ℕ) → Initial T s → Kept T list s → Reached T list s
  unfolding ReachedIn
  start s i k = (zero, (i, k))

  -- what was reached is reached still
  still_reached : (k s : ℕ) → ReachedIn T list k s → ReachedIn T (strike T list) k s
  unfolding ReachedIn
  still_reached zero s r = (r.0, kept_left s (start s r.0 r.1) r.1)
  still_reached (suc k) t r = (r.0, still_reached k r.0 r.1, reached_left r.0 t (k, r.1) r.2)

  agree : Agree (Reached T list) (Next T list) (Next T (strike T list))
  agree = record { there = reached_left; back = λ s t r h. (left_reached s t h).0; stays = reached_on T list }

  narrow : Repair T list → NarrowRepair T (strike T list)
  narrow R = record {
    repair = record {
      form = record {
        size = strike-length T list;
        bits = λ j h. let l = rw (strike-length T list) at h in
            rw (strike_at T list j l) (bit_or_0 (is_reached T list (step_at T j).from) _
            (R.form.bits j (rw R.form.size l)));
      };
      total = λ s t h. let l = left_reached s t h in kept_left t (reached_on T list s t l.1 l.0) (R.total s t l.0);
      starts = let r = R.starts in (r.0, r.1, kept_left r.0 (start r.0 r.1 r.2) r.2);
      rule = λ s i k. let k' = left_kept s k in
          same_meaning agree (Labelled T) (formula T (root_index T)) s (start s i k') (R.rule s i k');
    };
    reached = λ s t h. let r = (left_reached s t h).1 in (r.0, still_reached r.0 s r.1);
  }

pub strike-is_exact : StrikeIsExact
strike-is_exact T wf list = record {
  size = strike-length T list;
  reached = λ j h r. strike_at T list j h
      ∙ ap (λ (b : Bool). cond b (get_or list j 0) 0) ((is_reached_lem T wf list (step_at T j).from).1 r);
  unreached = λ j h d. strike_at T list j h
      ∙ ap (λ (b : Bool). cond b (get_or list j 0) 0)
      (not_so _ (λ e. d ((is_reached_lem T wf list (step_at T j).from).0 e)));
}

pub striking_narrows : StrikingNarrows
striking_narrows = narrow

pub senses_agree : SensesAgree
senses_agree T wf =
    (λ none list r. none list r.repair, λ none list r. none (strike T list) (striking_narrows T wf list r))
