-- `kept_steps`, `targets` and `is_kept` compute the kept steps, the next states and the kept states.
use Prim.Native.Nat.{ℕ, zero, suc, ◌<◌, zero-le, suc-le-suc}
use native.Mathlib.Nat.{le_of_suc-le-suc, not-suc-le-zero}
use native.Mathlib.Omega.{arith}
use mathlib.Core.Path.{◌≡◌, refl, sym, ap}
use mathlib.Core.Bool.{Bool, true, ◌&&◌, false≢true}
use mathlib.Core.Logic.{◌↔◌, inr, ⊎_elim, inl}
use mathlib.Core.List.Memᴰ
use mathlib.Core.List.{List, [], ◌∷◌, Memᴰ}
use borrow.Author.Tests.{eqb-true, eq-eqb}
use lib.Dec.{eqb}
use lib.ListN.{length, get_or}
use Rattle.table.specs.declared.record.Step.{Step}
use Rattle.table.specs.Table.{Table, zero_step, step_at}
use Rattle.table.specs.Accept.{any}
use Rattle.table.specs.Facts.{Wellformed}
use Rattle.ctl.specs.Rule.{Quantifier, every, some}
use Rattle.ctl.specs.Kept.{Next, Kept}
use Rattle.ctl.specs.Levels.{next_in}
use Rattle.ctl.specs.Labels.{kept_steps, ends_from, targets, nonempty, is_kept}
use Rattle.ctl.proofs.Select.{in_cond}

-- ---- the kept steps

-- a kept step stands among the steps, at a place that the list keeps
kept_place_lem : (xs : List Step) (bits : List ℕ) {x : Step} → Memᴰ x (kept_steps xs bits)
    → (j : ℕ) × (j < length xs) × (get_or bits j 0 ≡ 1) × (get_or xs j zero_step ≡ x)
unfolding kept_steps
kept_place_lem [] bits m = absurd (Memᴰ.not-nil m)
kept_place_lem (x ∷ xs) [] m = absurd (Memᴰ.not-nil m)
kept_place_lem (x ∷ xs) (b ∷ bits) m = ⊎_elim
    (λ r. (zero, suc-le-suc zero-le, eqb-true b 1 r.0, sym r.1))
    (λ m'. let r = kept_place_lem xs bits m' in (suc r.0, suc-le-suc r.1, r.2, r.3))
    ((in_cond (eqb b 1) x (kept_steps xs bits)).0 m)

-- the step at a place that the list keeps is a kept step
place_kept : (xs : List Step) (bits : List ℕ) (j : ℕ) → j < length xs → get_or bits j 0 ≡ 1
    → Memᴰ (get_or xs j zero_step) (kept_steps xs bits)
unfolding kept_steps
place_kept [] bits j h e = absurd (not-suc-le-zero h)
place_kept (x ∷ xs) [] j h e = absurd (omega arith)
place_kept (x ∷ xs) (b ∷ bits) zero h e = (in_cond (eqb b 1) x _).1 (inl (eq-eqb b 1 e, refl))
place_kept (x ∷ xs) (b ∷ bits) (suc j) h e =
    (in_cond (eqb b 1) x _).1 (inr (place_kept xs bits j (le_of_suc-le-suc h) e))

-- a kept step leads from its one end to the other
pub kept_step_next : (T : Table) (list : List ℕ) (x : Step) → Memᴰ x (kept_steps T.steps list) → Next T list x.from x.to
kept_step_next T list x m =
    let r = kept_place_lem T.steps list m in
    record {
      step = r.0;
      listed = r.1;
      kept = r.2;
      leaves = ap (λ (y : Step). y.from) r.3;
      enters = ap (λ (y : Step). y.to) r.3;
    }

-- where a kept step leads from s to t, it is one of the kept steps
pub next_kept_step : (T : Table) (list : List ℕ) (s t : ℕ) → Next T list s t
    → (x : Step) × Memᴰ x (kept_steps T.steps list) × (x.from ≡ s) × (x.to ≡ t)
next_kept_step T list s t h = (step_at T h.step, place_kept T.steps list h.step h.listed h.kept, h.leaves, h.enters)

-- ---- the next states

-- an end of the steps out of s, and the step
pub ends_step : (xs : List Step) (s : ℕ) {t : ℕ} → Memᴰ t (ends_from xs s)
    → (x : Step) × Memᴰ x xs × (x.from ≡ s) × (x.to ≡ t)
unfolding ends_from
ends_step [] s m = absurd (Memᴰ.not-nil m)
ends_step (x ∷ xs) s m = ⊎_elim
    (λ r. (x, Memᴰ.head refl, eqb-true x.from s r.0, sym r.1))
    (λ m'. let r = ends_step xs s m' in (r.0, Memᴰ.tail r.1, r.2, r.3))
    ((in_cond (eqb x.from s) x.to (ends_from xs s)).0 m)

pub step_ends : (s t : ℕ) {x : Step} {xs : List Step} → Memᴰ x xs → x.from ≡ s → x.to ≡ t → Memᴰ t (ends_from xs s)
unfolding ends_from
step_ends s t (Memᴰ.head {x = y} {xs = ys} e) f g =
    (in_cond (eqb y.from s) y.to _).1 (inl (eq-eqb y.from s (cc), cc))
step_ends s t (Memᴰ.tail {x = y} {xs = ys} m) f g = (in_cond (eqb y.from s) y.to _).1 (inr (step_ends s t m f g))

-- each of the targets of s is a next state of s
pub targets_sound : (T : Table) (list : List ℕ) (s t : ℕ) → Memᴰ t (targets T list s) → Next T list s t
targets_sound T list s t m =
    let r = ends_step (kept_steps T.steps list) s m in
    rw (r.2, r.3) at (kept_step_next T list r.0 r.1)

-- each next state of s is one of its targets
pub targets_complete : (T : Table) (list : List ℕ) (s t : ℕ) → Next T list s t → Memᴰ t (targets T list s)
targets_complete T list s t h = let r = next_kept_step T list s t h in step_ends s t r.1 r.2 r.3

-- ---- the kept states

nonempty-member : (ts : List ℕ) → (nonempty ts ≡ true) ↔ ((t : ℕ) × Memᴰ t ts)
nonempty-member [] = (λ e. absurd (false≢true e), λ r. absurd (Memᴰ.not-nil r.1))
nonempty-member (t ∷ ts) = (λ e. (t, Memᴰ.head refl), λ r. refl)

-- a state is kept when it has a target
pub is_kept_lem : (T : Table) (list : List ℕ) (s : ℕ) → (is_kept T list s ≡ true) ↔ Kept T list s
is_kept_lem T list s = (
  λ e. let r = (nonempty-member (targets T list s)).0 e in (r.0, targets_sound T list s r.0 r.1),
  λ r. (nonempty-member (targets T list s)).1 (r.0, targets_complete T list s r.0 r.1),
)

-- the ends of a kept step are states
pub next_inside : (T : Table) → Wellformed T → (list : List ℕ) (s t : ℕ) → Next T list s t
    → (s < length T.states) × (t < length T.states)
next_inside T wf list s t h =
    (rw h.leaves at (wf.from_state h.step h.listed), rw h.enters at (wf.to_state h.step h.listed))

-- a state with no next state has neither AX nor EX
pub next_of_kept : (q : Quantifier) (Y : List Bool) (ts : List ℕ) → next_in q Y ts ≡ nonempty ts && next_in q Y ts
unfolding next_in any
next_of_kept every Y [] = refl
next_of_kept every Y (t ∷ ts) = refl
next_of_kept some Y [] = refl
next_of_kept some Y (t ∷ ts) = refl
