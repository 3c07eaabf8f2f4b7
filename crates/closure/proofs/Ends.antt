-- The ends of the steps out of a state, as a set.
use Prim.Native.Nat.{ℕ, ◌^◌, ◌≤◌, ◌<◌}
use native.Mathlib.Omega.{arith}
use mathlib.Core.Path.{◌≡◌, refl, sym}
use mathlib.Core.Bool.{Bool, true}
use mathlib.Core.Logic.{◌↔◌}
use mathlib.Core.List.{List, Memᴰ}
use borrow.Author.Tests.{eqb-true, eq-eqb}
use lib.Dec.{eqb}
use lib.ListN.{length}
use Rattle.sets.specs.Member.{member}
use Rattle.sets.proofs.SetOf.{set_of-lt, in_set}
use Rattle.table.specs.declared.record.Step.{Step}
use Rattle.table.specs.Accept.{joins}
use Rattle.table.specs.Table.{Table, zero_step, step_at}
use Rattle.table.specs.Facts.{Wellformed}
use Rattle.table.specs.Rows.{target_set}
use Rattle.table.proofs.All.{any_at, at_any}
use Rattle.table.proofs.Bools.{and_parts, parts_and}
use Rattle.table.proofs.Numbers.{neither_less}
use Rattle.circuit.specs.Variables.{steps_out}
use Rattle.circuit.proofs.Lists.{in_out}

pub target_true : (T : Table) → Wellformed T → (s t : ℕ)
    → (member (target_set T.steps s) t ≡ true)
    ↔ ((j : ℕ) × (j < length T.steps) × ((step_at T j).from ≡ s) × ((step_at T j).to ≡ t))
unfolding target_set
target_true T wf s t = (there, back)
  where
    is_step : Step → Bool
    is_step = joins s t

    there : member (target_set T.steps s) t ≡ true
        → (j : ℕ) × (j < length T.steps) × ((step_at T j).from ≡ s) × ((step_at T j).to ≡ t)
    there e =
        let f = any_at is_step T.steps zero_step ((in_set 32 _ t).0 e).1 in
        let p = and_parts (eqb s (step_at T f.0).from) (eqb t (step_at T f.0).to) f.2 in
        (f.0, f.1, sym (eqb-true s (step_at T f.0).from p.0), sym (eqb-true t (step_at T f.0).to p.1))

    back : (j : ℕ) × (j < length T.steps) × ((step_at T j).from ≡ s) × ((step_at T j).to ≡ t)
        → member (target_set T.steps s) t ≡ true
    back (j, l, p, q) =
        let below : (step_at T j).to < length T.states = wf.to_state j l in
        let few : length T.states ≤ 32 = wf.few_states in
        (in_set 32 _ t).1 (
          omega arith,
          at_any is_step T.steps zero_step j l
              (parts_and (eqb s (step_at T j).from) (eqb t (step_at T j).to) (eq-eqb s (step_at T j).from (sym p))
              (eq-eqb t (step_at T j).to (sym q))),
        )

pub target_small : (xs : List Step) (s : ℕ) → target_set xs s < 2 ^ 32
unfolding target_set
target_small xs s = set_of-lt 32 _

-- two steps with the same ends are the same step
pub same_ends : (T : Table) → Wellformed T → (i j : ℕ) → i < length T.steps → j < length T.steps
    → (step_at T i).from ≡ (step_at T j).from → (step_at T i).to ≡ (step_at T j).to → i ≡ j
same_ends T wf i j hi hj f t =
    neither_less i j (λ l. wf.no_repeat i j l hj (f, t)) (λ l. wf.no_repeat j i l hi (sym f, sym t))

-- the end of a step out of s is one of the ends
pub out_target : (T : Table) → Wellformed T → (s j : ℕ) → Memᴰ j (steps_out T s)
    → member (target_set T.steps s) (step_at T j).to ≡ true
out_target T wf s j m = let o = (in_out T s j).0 m in (target_true T wf s (step_at T j).to).1 (j, o.0, o.1, refl)
