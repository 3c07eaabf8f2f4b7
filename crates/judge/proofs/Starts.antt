-- The judge's last tests, on words: whether a set is empty says whether some state, or every state, passes.
use Prim.Native.Nat.{ℕ, ◌≤◌, ◌<◌}
use mathlib.Core.Path.{◌≡◌, refl, sym, ap, ◌∙◌}
use mathlib.Core.Bool.{Bool, true, false, not, ◌&&◌, true≢false, false≢true}
use mathlib.Core.Logic.{◌↔◌}
use mathlib.Core.List.{List}
use native.Mathlib.Nat.{lt_of_lt_of_le}
use native.Mathlib.Decide.{dec_lt}
use native.Mathlib.Omega.{arith}
use borrow.Author.Tests.{not-true}
use lib.Dec.{eqb}
use lib.ListN.{length}
use Rattle.sets.specs.Member.{member, set_of}
use Rattle.sets.proofs.SetOf.{set_of_cong, member-set_of-below}
use Rattle.table.specs.declared.record.State.{State}
use Rattle.table.specs.Table.{Table}
use Rattle.table.specs.Facts.{Wellformed}
use Rattle.table.proofs.Bools.{same_test, not_so}
use Rattle.table.proofs.Past.{state_past}
use Rattle.ctl.specs.Rule.{root_index}
use Rattle.ctl.specs.Labels.{is_kept, marked}
use Rattle.ctl.specs.Reached.{is_initial_kept, is_reached}
use Rattle.ctl.specs.Tests.{keeps_initial, leaves_reached, root_marked}
use Rattle.ctl.proofs.Targets.{is_kept_lem, next_inside}
use Rattle.ctl.proofs.Reached.{is_reached_lem}
use Rattle.ctl.proofs.Repair.{all-states, any-states, implies_true, leaves_reached_lem}
use Rattle.label.proofs.Kept.{implied, none_found}

-- no state of the one set is outside the other: each that has f has g
none_outside : (f g : ℕ → Bool) (a b left : ℕ) → a ≡ set_of 32 f → b ≡ set_of 32 g
    → left ≡ set_of 32 (λ s. member a s && not (member b s))
    → (eqb left 0 ≡ true) ↔ ((s : ℕ) → s < 32 → f s ≡ true → g s ≡ true)
none_outside f g a b left a-is b-is l-is = (
  λ e s h. (implied (f s) (g s)).0
      ((none_found (λ s. f s && not (g s))).0 (sym (ap (λ (m : ℕ). eqb m 0) left_is) ∙ e) s h),
  λ sub. ap (λ (m : ℕ). eqb m 0) left_is
      ∙ (none_found (λ s. f s && not (g s))).1 (λ s h. (implied (f s) (g s)).1 (sub s h)),
)
  where
    left_is : left ≡ set_of 32 (λ s. f s && not (g s))
    left_is = l-is ∙ set_of_cong 32 _ _ (λ s h. λ i.
        (ap (λ (m : ℕ). member m s) a-is ∙ member-set_of-below 32 f s h) i
        && not ((ap (λ (m : ℕ). member m s) b-is ∙ member-set_of-below 32 g s h) i))

module _ (T : Table) (wf : Wellformed T) (list : List ℕ) where
  -- past the last state nothing is initial
  past : (s : ℕ) → length T.states ≤ s → is_initial_kept T list s ≡ false
  past s h = ap (λ (x : ℕ). eqb x 1 && is_kept T list s) (ap (λ (y : State). y.initial) (state_past T s h))

  pub inside : (s : ℕ) → is_initial_kept T list s ≡ true → s < length T.states
  inside s e =
      elim (dec_lt s (length T.states)) [ yes h ↦ h | no d ↦ absurd (false≢true (sym (past s (omega (arith, d))) ∙ e)) ]

  -- 12: an initial state is kept just when their set is not empty
  pub keeps_word : (w : ℕ) → w ≡ set_of 32 (is_initial_kept T list) → not (eqb w 0) ≡ keeps_initial T list
  keeps_word w e = same_test (not (eqb w 0)) (keeps_initial T list) (λ h. there h (keeps_initial T list) refl) back
    where
      empty : (eqb w 0 ≡ true) ↔ ((s : ℕ) → s < 32 → is_initial_kept T list s ≡ false)
      empty = rw e (none_found (is_initial_kept T list))

      there : not (eqb w 0) ≡ true → (b : Bool) → keeps_initial T list ≡ b → b ≡ true
      there h true p = refl
      there h false p =
          absurd (true≢false (sym (empty.1
          (λ s l. not_so (is_initial_kept T list s)
          (λ q. false≢true (sym p ∙ (any-states T (is_initial_kept T list)).1 (s, inside s q, q)))))
          ∙ not-true (eqb w 0) h))

      back : keeps_initial T list ≡ true → not (eqb w 0) ≡ true
      back p =
          let m = (any-states T (is_initial_kept T list)).0 p in
          ap not (not_so (eqb w 0) (λ z. false≢true (sym (empty.0 z m.0 (lt_of_lt_of_le m.1 wf.few_states)) ∙ m.2)))

  -- 13: the root is marked at each of them just when none is outside the root's set
  pub root_word : (starts root left : ℕ) → starts ≡ set_of 32 (is_initial_kept T list)
      → root ≡ set_of 32 (marked T list (root_index T))
      → left ≡ set_of 32 (λ s. member starts s && not (member root s)) → eqb left 0 ≡ root_marked T list
  root_word starts root left s-is r-is l-is = same_test (eqb left 0) (root_marked T list)
      (λ e. (all-states T _).1 (λ s l. (implies_true (is_initial_kept T list s) _).1
      (means.0 e s (lt_of_lt_of_le l wf.few_states))))
      (λ e. means.1 (λ s l i. (implies_true (is_initial_kept T list s) _).0 ((all-states T _).0 e s (inside s i)) i))
    where
      means : (eqb left 0 ≡ true)
          ↔ ((s : ℕ) → s < 32 → is_initial_kept T list s ≡ true → marked T list (root_index T) s ≡ true)
      means = none_outside (is_initial_kept T list) (marked T list (root_index T)) starts root left s-is r-is l-is

  -- 16: each kept step leaves a reached state just when no kept state is outside the set of these
  pub unreached_word : (kept reached left : ℕ) → kept ≡ set_of 32 (is_kept T list)
      → reached ≡ set_of 32 (is_reached T list)
      → left ≡ set_of 32 (λ s. member kept s && not (member reached s)) → eqb left 0 ≡ leaves_reached T list
  unreached_word kept reached left k-is r-is l-is = same_test (eqb left 0) (leaves_reached T list)
      (λ e. (leaves_reached_lem T wf list).1 (λ s t n. (is_reached_lem T wf list s).0
      (means.0 e s (lt_of_lt_of_le (next_inside T wf list s t n).0 wf.few_states) ((is_kept_lem T list s).1 (t, n)))))
      (λ e. means.1 (λ s l k. let r = (is_kept_lem T list s).0 k in
      (is_reached_lem T wf list s).1 ((leaves_reached_lem T wf list).0 e s r.0 r.1)))
    where
      means : (eqb left 0 ≡ true) ↔ ((s : ℕ) → s < 32 → is_kept T list s ≡ true → is_reached T list s ≡ true)
      means = none_outside (is_kept T list) (is_reached T list) kept reached left k-is r-is l-is
