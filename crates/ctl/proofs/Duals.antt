-- F and G as special cases of U and V, and U as the dual of V.
use Prim.Native.Nat.{ℕ, ◌<◌}
use mathlib.Core.Path.{◌≡◌, refl}
use mathlib.Core.Bool.{Bool, true, false}
use mathlib.Core.List.{List}
use lib.ListN.{length}
use Rattle.table.specs.declared.operator.Family.TheVariants.{Until, Release}
use Rattle.table.specs.Table.{Table}
use Rattle.table.specs.Facts.{Wellformed}
use Rattle.ctl.specs.Meaning.{Holds}
use Rattle.ctl.specs.Rule.{Quantifier, every, some, formula}
use Rattle.ctl.specs.Kept.{Next, Labelled, Total}
use Rattle.ctl.specs.Levels.{has, levels}
use Rattle.ctl.specs.Labels.{targets, label}
use Rattle.ctl.specs.Duals.{SpecialCases, AreSpecialCases, HoldsAt, Duals}
use Rattle.ctl.proofs.Joined.{other}
use Rattle.ctl.specs.OnPaths.{OnPaths, Along}
use Rattle.ctl.proofs.Paths.{Not}
use Rattle.ctl.proofs.Fixpoint.{apart, decides}
use Rattle.ctl.proofs.Targets.{targets_sound, targets_complete, next_inside}
use Rattle.ctl.proofs.Meaning.{label_set, label_mean}

pub special_cases : (next labelled : ℕ → ℕ → Type 0) → SpecialCases next labelled
unfolding Holds
special_cases next labelled = record {
  af_is = λ a s. (
    λ all π path. let r = all π path in (r.0, r.1, λ j h. tt),
    λ all π path. let r = all π path in
        (r.0, r.1),
  );
  ef_is = λ a s. (λ p. (p.0, p.1, (p.2.0, p.2.1, λ j h. tt)), λ p. (p.0, p.1, (p.2.0, p.2.1)));
  ag_is = λ a s. (λ all π path k none. all π path k, λ all π path k. all π path k (λ j h x. x));
  eg_is = λ a s. (λ p. (p.0, p.1, λ k none. p.2 k), λ p. (p.0, p.1, λ k. p.2 k (λ j h x. x)));
}

pub are_special_cases : AreSpecialCases
are_special_cases T list = special_cases (Next T list) (Labelled T)

module _ (T : Table) (wf : Wellformed T) (list : List ℕ) (total : Total T list) (a b : ℕ) (ha : a < length T.nodes)
    (hb : b < length T.nodes) where
  -- the mark in level n says which of the two holds
  until_or-not : (q : Quantifier) (s t : ℕ) → Next T list s t
      → ¬ OnPaths (other q) (Next T list) s
      (Along Release (Not (HoldsAt T list (formula T a))) (Not (HoldsAt T list (formula T b))))
      → OnPaths q (Next T list) s (Along Until (HoldsAt T list (formula T a)) (HoldsAt T list (formula T b)))
  until_or-not q s t h none =
      go (has (levels Until q (targets T list) (length T.states) (label T list a) (label T list b)) s) refl
    where
      go : (v : Bool) → has (levels Until q (targets T list) (length T.states) (label T list a) (label T list b)) s ≡ v
          → OnPaths q (Next T list) s (Along Until (HoldsAt T list (formula T a)) (HoldsAt T list (formula T b)))
      go true e =
          decides (length T.states) (Next T list) (targets T list) (targets_sound T list) (targets_complete T list)
          (λ s t h. (next_inside T wf list s t h).0) total (label T list a) (label T list b)
          (label_set T wf list b hb).size _ _
          (label_mean T wf list total a ha) (label_mean T wf list total b hb) Until q s t h true e
      go false e =
          absurd (none (decides (length T.states) (Next T list) (targets T list) (targets_sound T list)
          (targets_complete T list)
          (λ s t h. (next_inside T wf list s t h).0) total (label T list a) (label T list b)
          (label_set T wf list b hb).size _ _
          (label_mean T wf list total a ha) (label_mean T wf list total b hb) Until q s t h false e))

pub duals : Duals
unfolding Holds
duals T wf list total a b ha hb = record {
  au_is = λ s k. (
    λ all p. apart every Until (Next T list) s (HoldsAt T list (formula T a)) (HoldsAt T list (formula T b)) all p,
    λ none. until_or-not T wf list total a b ha hb every s k.0 k.1 none,
  );
  eu_is = λ s k. (
    λ p all. apart some Until (Next T list) s (HoldsAt T list (formula T a)) (HoldsAt T list (formula T b)) p all,
    λ none. until_or-not T wf list total a b ha hb some s k.0 k.1 none,
  );
}
