-- What is reached by m rounds: every state that at most m kept steps lead to. A round that adds nothing, or the n-th,
-- has reached all there are.
use Prim.Native.Nat.{ℕ, zero, suc, ◌+◌, ◌^◌, ◌≤◌, ◌<◌}
use mathlib.Core.Path.{◌≡◌, sym, ap, ◌∙◌}
use mathlib.Core.Bool.{true, ◌&&◌}
use mathlib.Core.List.{List}
use native.Mathlib.Omega.{arith}
use lib.ListN.{length}
use Rattle.sets.specs.Member.{member, set_of}
use Rattle.sets.proofs.SetOf.{in_set, set_of-lt, set_of_unique}
use Rattle.table.specs.Table.{Table}
use Rattle.table.specs.Facts.{Wellformed}
use Rattle.table.proofs.Bools.{and_parts, parts_and, same_test}
use Rattle.ctl.specs.Kept.{ReachedIn, Reached}
use Rattle.ctl.specs.Labels.{is_kept}
use Rattle.ctl.specs.Reached.{is_reached}
use Rattle.ctl.proofs.Targets.{is_kept_lem}
use Rattle.ctl.proofs.Reached.{is_reached_lem, reached_soon}
use Rattle.closure.specs.Rest.{initial_set}
use Rattle.closure.proofs.InitialSet.{initial_true}
use Rattle.repair.specs.Round.{Round}

pub record ReachedBy (T : Table) (list : List ℕ) (m reached : ℕ) : Type 0 where
  pub small : reached < 2 ^ 32
  pub sound : (s : ℕ) → member reached s ≡ true → Reached T list s
  pub soon : (k s : ℕ) → k ≤ m → ReachedIn T list k s → member reached s ≡ true

module _ (T : Table) (wf : Wellformed T) (list : List ℕ) where
  -- by none: the kept initial states
  pub reached_first : (w : ℕ) → w ≡ set_of 32 (λ t. member (initial_set T) t && member (set_of 32 (is_kept T list)) t)
      → ReachedBy T list 0 w
  unfolding ReachedIn
  reached_first w e = rw e (record {
    small = set_of-lt 32 _;
    sound = λ s m.
        let p = and_parts (member (initial_set T) s) _ ((in_set 32 _ s).0 m).1 in
        (zero, ((initial_true T s).0 p.0, (is_kept_lem T list s).0 ((in_set 32 _ s).0 p.1).1));
    soon = first;
  })
    where
      first : (k s : ℕ) → k ≤ 0 → ReachedIn T list k s
          → member (set_of 32 (λ t. member (initial_set T) t && member (set_of 32 (is_kept T list)) t)) s ≡ true
      first zero s h r =
          let l : s < 32 = omega (arith, r.0.0, wf.few_states) in
          (in_set 32 _ s).1 (
            l,
            parts_and (member (initial_set T) s) _ ((initial_true T s).1 r.0)
                ((in_set 32 _ s).1 (l, (is_kept_lem T list s).1 r.1)),
          )
      first (suc k) s h r = absurd (omega arith)

  -- one round more
  pub reached_round : (m reached next : ℕ) → ReachedBy T list m reached → Round T list reached next
      → ReachedBy T list (m + 1) next
  unfolding ReachedIn
  reached_round m reached next b r = record { small = r.small; sound = r.no_other b.sound; soon = more }
    where
      more : (k s : ℕ) → k ≤ m + 1 → ReachedIn T list k s → member next s ≡ true
      more zero s h i = r.has_set s (b.soon zero s (omega arith) i)
      more (suc k) t h i = r.has_ends i.0 t i.2 (b.soon k i.0 (omega arith) i.1)

  all_reached : (m reached : ℕ) → ReachedBy T list m reached
      → ((k s : ℕ) → ReachedIn T list k s → member reached s ≡ true) → reached ≡ set_of 32 (is_reached T list)
  all_reached m reached b all =
      set_of_unique 32 (is_reached T list) reached b.small (λ s h. same_test (member reached s) (is_reached T list s)
      (λ e. (is_reached_lem T wf list s).1 (b.sound s e))
      (λ e. let r = (is_reached_lem T wf list s).0 e in all r.0 s r.1))

  -- a round that adds nothing
  pub reached_still : (m reached next : ℕ) → ReachedBy T list m reached → Round T list reached next → next ≡ reached
      → reached ≡ set_of 32 (is_reached T list)
  unfolding ReachedIn
  reached_still m reached next b r e = all_reached m reached b all
    where
      all : (k s : ℕ) → ReachedIn T list k s → member reached s ≡ true
      all zero s i = b.soon zero s (omega arith) i
      all (suc k) t i = sym (ap (λ (w : ℕ). member w t) e) ∙ r.has_ends i.0 t i.2 (all k i.0 i.1)

  -- n rounds
  pub reached_last : (m reached : ℕ) → ReachedBy T list m reached → length T.states ≤ m
      → reached ≡ set_of 32 (is_reached T list)
  reached_last m reached b done = all_reached m reached b
      (λ k s i. let r = reached_soon T wf list s (k, i) in b.soon r.0 s (omega (arith, r.1)) r.2)
