-- The gates of K, at rest: K of a state is false where all steps out of it are struck.
use Prim.Native.Nat.{ℕ, ◌^◌, ◌<◌}
use native.Mathlib.Omega.{arith}
use mathlib.Core.Path.{◌≡◌, refl, sym, ap, subst, ◌∙◌}
use mathlib.Core.Bool.{true, false, not, true≢false}
use mathlib.Core.Logic.{◌↔◌, inl, inr}
use mathlib.Core.List.{map, Memᴰ}
use borrow.Author.Tests.{eq-eqb}
use lib.Dec.{eqb}
use lib.ListN.{length}
use Rattle.sets.specs.Member.{member}
use Rattle.sets.proofs.SetOf.{in_set}
use Rattle.table.specs.Table.{Table, step_at}
use Rattle.table.specs.Facts.{Wellformed}
use Rattle.table.specs.Rows.{target_set}
use Rattle.table.proofs.Bools.{parts_and, not_so}
use Rattle.ctl.specs.Rule.{some}
use Rattle.circuit.specs.Logic.{pos, neg, any}
use Rattle.circuit.specs.Variables.{step, kept, steps_out}
use Rattle.circuit.specs.Gates.{kept_gates}
use Rattle.circuit.proofs.Lists.{Each, each_one, each_over, in_out}
use Rattle.rows.specs.Row.{known, turn}
use Rattle.rows.specs.Rules.{unstruck}
use Rattle.rows.proofs.RowLaws.{without-true, without_small, none_empty, some_nonempty, or-true, cond-true}
use Rattle.closure.specs.Knowledge.{Knowledge, Small}
use Rattle.closure.specs.Rest.{Rest}
use Rattle.closure.proofs.Ends.{target_true, target_small, out_target}
use Rattle.closure.proofs.OneMember.{same_or, only_this}
use Rattle.closure.proofs.AndClosed.{GateRules, many_rules}
use Rattle.closure.proofs.Says.{row_of, place_of, Says, Is, to_row, of_row, to_opposite, of_opposite}
use Rattle.closure.proofs.RestAhead.{Good, ahead_shape}

-- the ends of the steps out of s, and those of them that are not struck
abbrev ends : Table → ℕ → ℕ
ends T s = target_set T.steps s

abbrev left : Table → Knowledge → ℕ → ℕ
left T K s = unstruck (target_set T.steps s) (K.steps s)

module _ (T : Table) (wf : Wellformed T) (K : Knowledge) (small : Small K) (rest : Rest T K) (s : ℕ)
    (h : s < length T.states) where
  left_true : (t : ℕ) → (member (left T K s) t ≡ true)
      ↔ ((t < 32) × (member (ends T s) t ≡ true) × (known (K.steps s) false t ≡ false))
  left_true t = without-true (ends T s) (K.steps s).no t (small.steps s).1

  left_small : left T K s < 2 ^ 32
  left_small = without_small _ _ (target_small T.steps s)

  -- what each step out of s has, each end has
  to_ends : (P : ℕ → Type 0) → ((j : ℕ) → Memᴰ j (steps_out T s) → P (step_at T j).to) → (t : ℕ)
      → member (ends T s) t ≡ true → P t
  to_ends P each t m = let j = (target_true T wf s t).0 m in subst P j.3 (each j.0 ((in_out T s j.0).1 (j.1, j.2)))

  -- ---- what the rules say

  none_left : eqb (left T K s) 0 ≡ true → known K.kept false s ≡ true
  none_left e = (rest.kept s h).up s false
      ((in_set 32 _ s).1 (omega (arith, wf.few_states), parts_and _ _ (eq-eqb s s refl) e))

  all_struck : ((t : ℕ) → member (ends T s) t ≡ true → known (K.steps s) false t ≡ true) → known K.kept false s ≡ true
  all_struck each = none_left (none_empty _ left_small (λ t l. not_so _ (λ m.
      let p = (left_true t).0 m in true≢false (sym (each t p.1) ∙ p.2))))

  struck_all : known K.kept false s ≡ true → (t : ℕ) → member (ends T s) t ≡ true → known (K.steps s) false t ≡ true
  struck_all e t m = (rest.kept s h).down t false ((or-true _ _ t).1 (inl ((cond-true _ _ t).1 (e, m))))

  kept_one : (t : ℕ) → known (K.steps s) true t ≡ true → known K.kept true s ≡ true
  kept_one t e = (rest.kept s h).up s true ((or-true (K.steps s).yes _ s).1 (inr
      ((in_set 32 _ s).1 (
        omega (arith, wf.few_states),
        parts_and _ _ (eq-eqb s s refl) (ap not (some_nonempty _ t e)),
      ))))

  last_kept : known K.kept true s ≡ true → (t : ℕ)
      → ((u : ℕ) → member (ends T s) u ≡ true → ¬ (u ≡ t) → known (K.steps s) false u ≡ true)
      → known (K.steps s) true t ≡ true
  last_kept e t others =
      let this = only_this (left T K s) t left_small
      (λ z. (rest.kept s h).clear_kept e (none_left z))
      (λ u m. let p = (left_true u).0 m in same_or u t (λ q. q)
      (λ d. absurd (true≢false (sym (others u p.1 d) ∙ p.2)))) in
      (rest.kept s h).down t true ((cond-true _ _ t).1 (parts_and _ _ e this.1, this.0))

  -- ---- the gate

  step_is : (j : ℕ) → Memᴰ j (steps_out T s) → Is T K (neg (step j)) (turn false (K.steps s)) (step_at T j).to
  unfolding row_of place_of
  step_is j o = record { row_is = ap (λ (s : ℕ). turn false (K.steps s)) ((in_out T s j).0 o).1; place_is = refl }

  kept_is : Is T K (neg (kept s)) (turn false K.kept) s
  unfolding row_of place_of
  kept_is = record { row_is = refl; place_is = refl }

  step_same : (i j : ℕ) → step i ≡ step j → i ≡ j
  step_same i j e = cc

  kept_rules : GateRules (Says T K) (kept s) (any (map (λ j. pos (step j)) (steps_out T s)))
  kept_rules = ahead_shape (Says T K) some (kept s) step (steps_out T s)
      (many_rules (Says T K) (neg (kept s)) (λ j. neg (step j))
      (λ i j e. step_same i j (ap (λ l. l.var) e)) (steps_out T s)
      (λ each. of_row T K kept_is (all_struck (to_ends _ (λ j o. to_row T K (step_is j o) (each j o)))))
      (λ e j o. of_row T K (step_is j o) (struck_all (to_row T K kept_is e) _ (out_target T wf s j o)))
      (λ j o e. of_opposite T K kept_is (kept_one _ (to_opposite T K (step_is j o) e)))
      (λ e j o others. of_opposite T K (step_is j o) (last_kept (to_opposite T K kept_is e) _
      (to_ends (λ u. ¬ (u ≡ (step_at T j).to) → known (K.steps s) false u ≡ true)
      (λ i l d. to_row T K (step_is i l) (others i l (λ q. d (ap (λ (j : ℕ). (step_at T j).to) q))))))))

-- the gates of K
pub kept_good : (T : Table) → Wellformed T → (K : Knowledge) → Small K → Rest T K → Each (Good T K) (kept_gates T)
unfolding row_of place_of
kept_good T wf K small rest =
    each_over (length T.states) _ _ (λ s h. each_one _ _ (kept_rules T wf K small rest s h, (rest.kept s h).clear_kept))
