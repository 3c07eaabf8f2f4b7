-- Repair is decided by labels, in both senses: tests 11, 12 and 13 pass just when the list is a repair in the wider
-- sense, and with 16 in the narrower one.
use Prim.Native.Nat.{ℕ, ◌<◌}
use native.Mathlib.Omega.{arith}
use mathlib.Core.Path.{◌≡◌, refl, sym, ◌∙◌}
use mathlib.Core.Bool.{Bool, true, false, not, ◌||◌, false≢true}
use mathlib.Core.Logic.Iff
use mathlib.Core.Logic.{◌↔◌}
use mathlib.Core.List.{List}
use borrow.Author.Tests.{eqb-true, eq-eqb, leb-true, le-leb}
use lib.Dec.{eqb, leb}
use lib.ListN.{length}
use Rattle.table.specs.declared.refusal.Refusal.TheVariants.{NotTotal, NoInitialKept, RootFails, UnreachedStep}
use Rattle.table.specs.Verdict.{Verdict}
use Rattle.std.specs.Prelude.{Ok, Err}
use Rattle.table.specs.Table.{Table, table_of}
use Rattle.table.specs.Accept.{all, any, table_verdict, list_verdict}
use Rattle.table.specs.Facts.{Wellformed}
use Rattle.table.proofs.Bools.{and_parts, parts_and}
use Rattle.table.proofs.All.{all_at, at_all}
use Rattle.table.proofs.Verdicts.{refused, then_accepted, accepted_then, require_accepted, accepted_require}
use Rattle.ctl.specs.Rule.{root_index}
use Rattle.ctl.specs.Kept.{Initial, IsList, Next, Kept, Total, NodeHolds, Reached, Repair, NarrowRepair}
use Rattle.ctl.specs.Rank.{Cheapest}
use Rattle.ctl.specs.Price.{list_price}
use Rattle.ctl.specs.Labels.{kept_steps, marked}
use Rattle.ctl.specs.Reached.{is_initial_kept}
use Rattle.ctl.specs.Tests.{
  states,
  is_total,
  keeps_initial,
  leaves_reached,
  root_marked,
  is_repair,
  narrow_tests,
  judge_verdict,
}
use Rattle.ctl.proofs.Tabulate.{all_true, any-true}
use Rattle.ctl.proofs.Select.{in_below}
use Rattle.ctl.proofs.Rank.{cheapest_unique}
use Rattle.ctl.proofs.Targets.{kept_step_next, next_kept_step, is_kept_lem}
use Rattle.ctl.proofs.Meaning.{labels_are_meaning}
use Rattle.ctl.proofs.Reached.{initial_kept, is_reached_lem}

-- ---- tests of all states

module _ (T : Table) (p : ℕ → Bool) where
  -- a test passes at every state
  pub all-states : (all p (states T) ≡ true) ↔ ((s : ℕ) → s < length T.states → p s ≡ true)
  all-states = (
    λ e s h. (all_true p (states T)).0 e s ((in_below (length T.states) s).1 h),
    λ k. (all_true p (states T)).1 (λ s m. k s ((in_below (length T.states) s).0 m)),
  )

  -- a test passes at some state
  pub any-states : (any p (states T) ≡ true) ↔ ((s : ℕ) × (s < length T.states) × (p s ≡ true))
  any-states = (
    λ e. let r = (any-true p (states T)).0 e in (r.0, (in_below (length T.states) r.0).0 r.1, r.2),
    λ r. (any-true p (states T)).1 (r.0, (in_below (length T.states) r.0).1 r.1, r.2),
  )

-- ---- the tests

-- `not x || y` is true: y is true where x is
pub implies_true : (x y : Bool) → (not x || y ≡ true) ↔ (x ≡ true → y ≡ true)
implies_true true y = (λ e h. e, λ k. k refl)
implies_true false y = (λ e h. absurd (false≢true h), λ k. refl)

-- 11 passes just when the list is total
pub is-total : (T : Table) (list : List ℕ) → (is_total T list ≡ true) ↔ Total T list
is-total T list = (
  λ e s t h. let r = next_kept_step T list s t h in
      (is_kept_lem T list t).0 (rw r.3 at ((all_true _ (kept_steps T.steps list)).0 e r.0 r.1)),
  λ total. (all_true _ (kept_steps T.steps list)).1
      (λ x m. (is_kept_lem T list x.to).1 (total x.from x.to (kept_step_next T list x m))),
)

-- 12 passes just when an initial state is kept
pub keeps_initial_lem : (T : Table) (list : List ℕ)
    → (keeps_initial T list ≡ true) ↔ ((s : ℕ) × Initial T s × Kept T list s)
keeps_initial_lem T list = (
  λ e. let r = (any-states T (is_initial_kept T list)).0 e in let k = (initial_kept T list r.0).0 r.2 in
      (r.0, (r.1, k.0), k.1),
  λ r. (any-states T (is_initial_kept T list)).1 (r.0, r.1.0, (initial_kept T list r.0).1 (r.1.1, r.2)),
)

-- 16 passes just when each kept step leaves a reached state
pub leaves_reached_lem : (T : Table) → Wellformed T → (list : List ℕ)
    → (leaves_reached T list ≡ true) ↔ ((s t : ℕ) → Next T list s t → Reached T list s)
leaves_reached_lem T wf list = (
  λ e s t h. let r = next_kept_step T list s t h in
      (is_reached_lem T wf list s).0 (rw r.2 at ((all_true _ (kept_steps T.steps list)).0 e r.0 r.1)),
  λ reached. (all_true _ (kept_steps T.steps list)).1
      (λ x m. (is_reached_lem T wf list x.from).1 (reached x.from x.to (kept_step_next T list x m))),
)

root_inside : (T : Table) → Wellformed T → root_index T < length T.nodes
root_inside T wf = omega (arith, wf.some_node)

-- 13 passes just when the root holds at every kept initial state
pub root_marked_lem : (T : Table) → Wellformed T → (list : List ℕ) → Total T list
    → (root_marked T list ≡ true) ↔ ((s : ℕ) → Initial T s → Kept T list s → NodeHolds T list (root_index T) s)
root_marked_lem T wf list total = Iff.trans (all-states T _) (
  λ all s i k. ((means s).0 ((implies_true (is_initial_kept T list s) _).0 (all s i.0)
      ((initial_kept T list s).1 (i.1, k)))).1,
  λ rule s h. (implies_true (is_initial_kept T list s) _).1
      (λ e. let r = (initial_kept T list s).0 e in (means s).1 (r.1, rule s (h, r.0) r.1)),
)
  where
    means : (s : ℕ) → (marked T list (root_index T) s ≡ true) ↔ (Kept T list s × NodeHolds T list (root_index T) s)
    means = labels_are_meaning T wf list total (root_index T) (root_inside T wf)

-- ---- lists

true_dec : (b : Bool) → Dec (b ≡ true)
true_dec true = yes refl
true_dec false = no false≢true

accepted_dec : (v : Verdict) → Dec (v ≡ Ok tt)
accepted_dec (Ok tt) = yes refl
accepted_dec (Err r) = no (refused r)

-- 9 accepts just the kept lists of the table
pub is_list : (T : Table) (list : List ℕ) → (list_verdict (length T.steps) list ≡ Ok tt) ↔ IsList T list
unfolding list_verdict
is_list T list = (
  λ e.
      let r = and_parts (eqb (length list) (length T.steps)) _ (require_accepted _ _ e) in
      record { size = eqb-true _ _ r.0; bits = λ j h. leb-true _ 1 (all_at (λ b. leb b 1) list 0 r.1 j h) },
  λ form. accepted_require _ _ (parts_and _ _ (eq-eqb _ _ form.size)
      (at_all (λ b. leb b 1) list 0 (λ j h. le-leb _ 1 (form.bits j h)))),
)

-- ---- repairs

tests_passed : (T : Table) (list : List ℕ)
    → (is_repair T list ≡ true)
    ↔ ((is_total T list ≡ true) × (keeps_initial T list ≡ true) × (root_marked T list ≡ true))
tests_passed T list = (
  λ e. let r = and_parts _ (root_marked T list) e in let s = and_parts (is_total T list) (keeps_initial T list) r.0 in
      (s.0, s.1, r.1),
  λ r. parts_and _ (root_marked T list) (parts_and (is_total T list) (keeps_initial T list) r.0 r.1) r.2,
)

tests_accepted : (T : Table) (list : List ℕ)
    → (narrow_tests T list ≡ Ok tt) ↔ ((is_repair T list ≡ true) × (leaves_reached T list ≡ true))
tests_accepted T list = (
  λ e.
      let r = then_accepted _ _ e in
      let s = then_accepted _ _ r.1 in
      let t = then_accepted _ _ s.1 in (
        (tests_passed T list).1 (
          require_accepted NotTotal _ r.0,
          require_accepted NoInitialKept _ s.0,
          require_accepted RootFails _ t.1,
        ),
        require_accepted UnreachedStep _ t.0,
      ),
  λ p.
      let r = (tests_passed T list).0 p.0 in
      accepted_then _ _ (accepted_require NotTotal _ r.0) (accepted_then _ _ (accepted_require NoInitialKept _ r.1)
      (accepted_then _ _ (accepted_require UnreachedStep _ p.1) (accepted_require RootFails _ r.2))),
)

module _ (T : Table) (wf : Wellformed T) (list : List ℕ) (form : IsList T list) where
  -- 11, 12 and 13 pass just for the repairs in the wider sense.
  pub repair_decided : (is_repair T list ≡ true) ↔ Repair T list
  repair_decided = Iff.trans (tests_passed T list) (
    λ r.
        let total = (is-total T list).0 r.0 in
        record {
          form = form;
          total = total;
          starts = (keeps_initial_lem T list).0 r.1;
          rule = (root_marked_lem T wf list total).0 r.2;
        },
    λ r. (
      (is-total T list).1 r.total,
      (keeps_initial_lem T list).1 r.starts,
      (root_marked_lem T wf list r.total).1 r.rule,
    ),
  )

  -- 11, 12, 16 and 13 accept just the repairs in the narrower sense.
  pub narrow_decided : (narrow_tests T list ≡ Ok tt) ↔ NarrowRepair T list
  narrow_decided = Iff.trans (tests_accepted T list) (
    λ r. record { repair = repair_decided.0 r.0; reached = (leaves_reached_lem T wf list).0 r.1 },
    λ r. (repair_decided.1 r.repair, (leaves_reached_lem T wf list).1 r.reached),
  )

-- Of an accepted table, the judge accepts just the repairs in the narrower sense.
pub judge_accepts_repairs : (table list : List ℕ) → Wellformed (table_of table) → table_verdict table ≡ Ok tt
    → (judge_verdict table list ≡ Ok tt) ↔ NarrowRepair (table_of table) list
unfolding judge_verdict
judge_accepts_repairs table list wf accepted = (
  λ e.
      let r = then_accepted (list_verdict _ list) _ (then_accepted (table_verdict table) _ e).1 in
      (narrow_decided (table_of table) wf list ((is_list (table_of table) list).0 r.0)).0 r.1,
  λ r.
      let form = r.repair.form in
      accepted_then (table_verdict table) _ accepted
      (accepted_then _ _ ((is_list (table_of table) list).1 form) ((narrow_decided (table_of table) wf list form).1 r)),
)

-- A table has at most one repair that is the cheapest, then first in rank.
pub cheapest_repair_unique : (T : Table) (l m : List ℕ) → Cheapest (list_price T) (Repair T) l
    → Cheapest (list_price T) (Repair T) m → l ≡ m
cheapest_repair_unique T = cheapest_unique (list_price T) (Repair T) (λ l m p q. p.form.size ∙ sym q.form.size)
