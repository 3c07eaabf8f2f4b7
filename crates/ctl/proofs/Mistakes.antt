-- Mistakes that the definitions do not make: release without end, release and its last place, until without end, dead
-- ends, initial states and loops.
use Prim.Native.Nat.{ℕ, zero, suc, ◌≤◌, ◌<◌}
use native.Mathlib.Omega.{arith}
use mathlib.Core.Path.{◌≡◌, refl, sym, ◌∙◌}
use mathlib.Core.Bool.{Bool, true, false, not, ◌||◌, and-false}
use mathlib.Core.List.{List, [], ◌∷◌}
use lib.ListN.{length, get_or}
use Rattle.sets.specs.Member.{member}
use Rattle.table.specs.declared.refusal.Refusal.TheVariants.{UnreachedStep}
use Rattle.std.specs.Prelude.{Err}
use Rattle.table.specs.Table.{Table, state_at, step_at}
use Rattle.table.specs.Accept.{all, any}
use Rattle.table.specs.Facts.{Wellformed, NoStepTwice, NodesFit}
use Rattle.table.proofs.Bools.{not_so}
use Rattle.table.proofs.Verdicts.{refused}
use Rattle.ctl.specs.Price.{sum_below, list_price}
use Rattle.ctl.specs.Meaning.{Formula, ax, Fullpath, Released, UntilAlong, Holds}
use Rattle.ctl.specs.Rule.{every, bottom_up, root_index}
use Rattle.ctl.specs.Kept.{Labelled, IsList, Next, Kept, Repair, NarrowRepair}
use Rattle.ctl.specs.Range.{tabulate}
use Rattle.ctl.specs.Levels.{iterate, next_in, level, levels}
use Rattle.ctl.specs.Labels.{kept_steps, ends_from, is_kept, label_of, label, marked}
use Rattle.ctl.specs.Reached.{is_initial_kept, reached_set, strike}
use Rattle.ctl.specs.Tests.{is_repair, narrow_tests}
use Rattle.ctl.proofs.Meaning.{marked_kept}
use Rattle.ctl.proofs.Repair.{repair_decided, narrow_decided}

-- ---- release

-- b without end satisfies a V b, whether or not a ever holds
pub endless_released : (a b : ℕ → Type 0) (π : ℕ → ℕ) → ((k : ℕ) → b (π k)) → Released a b π
endless_released a b π always k none = always k

-- b must hold also where a first holds
pub released_at_first : (a b : ℕ → Type 0) (π : ℕ → ℕ) → Released a b π → (k : ℕ) → ((j : ℕ) → j < k → ¬ a (π j))
    → a (π k) → b (π k)
released_at_first a b π r k none first = r k none

-- ---- until

-- a without end does not satisfy a U b: b has to come
pub endless_not_until : (a b : ℕ → Type 0) (π : ℕ → ℕ) → ((k : ℕ) → ¬ b (π k)) → ¬ UntilAlong a b π
endless_not_until a b π never u = never u.0 u.1

-- ---- dead ends

-- a state that is not kept is marked for no node, whether or not the list is total
pub dead_end_unmarked : (T : Table) → Wellformed T → (list : List ℕ) (i : ℕ) → i < length T.nodes → (s : ℕ)
    → ¬ Kept T list s
    → marked T list i s ≡ false
dead_end_unmarked T wf list i h s dead = not_so (marked T list i s) (λ e. dead (marked_kept T wf list i h s e))

-- the path meaning alone is no guard: AX holds at a dead end, for want of next states
pub ax_holds_at_dead_end : (T : Table) (list : List ℕ) (a : Formula) (s : ℕ) → ¬ Kept T list s
    → Holds (Next T list) (Labelled T) (ax a) s
unfolding Holds
ax_holds_at_dead_end T list a s dead t h = absurd (dead (t, h))

-- AX of a set is not marked where there is no next state
pub ax_unmarked_at_dead_end : (X : List Bool) → next_in every X [] ≡ false
unfolding next_in
ax_unmarked_at_dead_end X = refl

-- ---- initial states

-- test 13 asks nothing of a state that is not kept, be it initial or not
pub unkept_asks_nothing : (T : Table) (list : List ℕ) (s : ℕ) → is_kept T list s ≡ false
    → not (is_initial_kept T list s) || marked T list (root_index T) s ≡ true
unkept_asks_nothing T list s e = rw (e, and-false)

-- ---- loops

-- two states, each with a step to itself; state 0 is initial and has proposition 0, which is the rule
abbrev pub loops : Table
loops = record {
  states = record { initial = 1; label = 1 } ∷ record { initial = 0; label = 0 } ∷ [];
  steps = record { from = 0; to = 0; price = 3 } ∷ record { from = 1; to = 1; price = 7 } ∷ [];
  nodes = record { kind = 2; a = 0; b = 0 } ∷ [];
  props = 1;
}

-- both are kept
abbrev pub both_loops : List ℕ
both_loops = 1 ∷ 1 ∷ []

-- tests 11, 12 and 13 pass of the list that keeps both loops
pub loops_pass : is_repair loops both_loops ≡ true
unfolding all any tabulate member kept_steps ends_from bottom_up label_of label
loops_pass = refl

-- and 16 does not, since no kept step leads from state 0 to state 1
pub loops_unreached : narrow_tests loops both_loops ≡ Err UnreachedStep
unfolding all any tabulate iterate next_in level levels kept_steps ends_from reached_set
loops_unreached = refl

-- striking leaves the loop of the initial state
pub loops_struck : strike loops both_loops ≡ 1 ∷ 0 ∷ []
unfolding all any tabulate iterate next_in level levels kept_steps ends_from reached_set strike
loops_struck = refl

-- striking it costs what the step costs; the list before costs nothing, and that price is the one reported
pub loops_cost : list_price loops (1 ∷ 0 ∷ []) ≡ 7
unfolding sum_below
loops_cost = refl

pub loops_free : list_price loops both_loops ≡ 0
unfolding sum_below
loops_free = refl

-- the loop at state 1 is kept
pub loop_kept : Kept loops both_loops 1
loop_kept = (1, record { step = 1; listed = omega arith; kept = refl; leaves = refl; enters = refl })

-- each step of the table ends where it starts
loop-stays : (s t : ℕ) → Next loops both_loops s t → s ≡ t
loop-stays s t h = sym h.leaves ∙ go h.step ∙ h.enters
  where
    go : (j : ℕ) → (step_at loops j).from ≡ (step_at loops j).to
    go zero = refl
    go (suc zero) = refl
    go (suc (suc j)) = refl

-- state 1 is on no fullpath from the initial state
pub loop_unreached : (π : ℕ → ℕ) → Fullpath (Next loops both_loops) 0 π → (k : ℕ) → π k ≡ 0
loop_unreached π path zero = path.starts
loop_unreached π path (suc k) = sym (loop-stays (π k) (π (suc k)) (path.steps k)) ∙ loop_unreached π path k

below_two : (P : ℕ → Type 0) → P 0 → P 1 → (s : ℕ) → s < 2 → P s
below_two P p q zero h = p
below_two P p q (suc zero) h = q
below_two P p q (suc (suc s)) h = absurd (omega arith)

-- the table has what every accepted table has
loops_wellformed : Wellformed loops
loops_wellformed = record {
  some_state = omega arith;
  few_states = omega arith;
  few_steps = omega arith;
  some_node = omega arith;
  few_nodes = omega arith;
  few_props = omega arith;
  initial_bit = below_two (λ s. (state_at loops s).initial ≤ 1) (omega arith) (omega arith);
  label_below = below_two (λ s. (state_at loops s).label < 2) (omega arith) (omega arith);
  some_initial = (0, omega arith, refl);
  from_state = below_two (λ j. (step_at loops j).from < 2) (omega arith) (omega arith);
  to_state = below_two (λ j. (step_at loops j).to < 2) (omega arith) (omega arith);
  no_repeat = two_steps;
  each_node_fits = one_node;
}
  where
    two_steps : NoStepTwice loops
    two_steps i zero l h same = absurd (omega arith)
    two_steps zero (suc zero) l h same = omega (arith, same.0)
    two_steps (suc i) (suc zero) l h same = absurd (omega arith)
    two_steps i (suc (suc j)) l h same = absurd (omega arith)

    one_node : NodesFit loops
    one_node zero h = (omega arith, refl)
    one_node (suc i) h = absurd (omega arith)

both_form : IsList loops both_loops
both_form = record { size = refl; bits = below_two (λ j. get_or both_loops j 0 ≤ 1) (omega arith) (omega arith) }

-- A kept loop that no initial state reaches does no harm in the wider sense: both loops are a repair.
pub loops_repair : Repair loops both_loops
loops_repair = (repair_decided loops loops_wellformed both_loops both_form).0 loops_pass

-- In the narrower sense they are none.
pub loops-not_narrow : ¬ NarrowRepair loops both_loops
loops-not_narrow r =
    refused UnreachedStep (sym loops_unreached ∙ (narrow_decided loops loops_wellformed both_loops both_form).1 r)
