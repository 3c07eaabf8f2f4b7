-- What a pass over the steps of a list has done before step j: the kept states, and a round of reaching.
use Prim.Native.Nat.{ℕ, ◌+◌, ◌^◌, ◌≤◌, ◌<◌}
use mathlib.Core.Path.{◌≡◌, refl, sym, ◌∙◌}
use mathlib.Core.Bool.{true, ◌&&◌, ◌||◌, false≢true}
use mathlib.Core.Logic.{⊎_elim}
use mathlib.Core.List.{List}
use native.Mathlib.Omega.{arith}
use borrow.Author.Tests.{eqb-true, eq-eqb}
use borrow.Author.Count.{below_more}
use lib.Dec.{eqb}
use lib.ListN.{length, get_or}
use Rattle.sets.specs.Member.{member, set_of}
use Rattle.sets.proofs.Laws.{member-zero, member_inside}
use Rattle.sets.proofs.SetOf.{in_set, set_of-lt, set_of_unique}
use Rattle.table.specs.Table.{Table, step_at}
use Rattle.table.proofs.Bools.{and_parts, parts_and, or_parts, or_left, or_right, same_test}
use Rattle.ctl.specs.Kept.{Next, Kept, Reached}
use Rattle.ctl.specs.Labels.{is_kept}
use Rattle.ctl.proofs.Targets.{is_kept_lem}
use Rattle.ctl.proofs.Reached.{reached_on}
use Rattle.repair.specs.Round.{Round}

next_at : (T : Table) (list : List ℕ) (j : ℕ) → j < length T.steps → get_or list j 0 ≡ 1
    → Next T list (step_at T j).from (step_at T j).to
next_at T list j h k = record { step = j; listed = h; kept = k; leaves = refl; enters = refl }

-- ---- the kept states

-- the states that a kept step before j leaves
pub record KeptBefore (T : Table) (list : List ℕ) (j kept : ℕ) : Type 0 where
  pub small : kept < 2 ^ 32
  pub sound : (s : ℕ) → member kept s ≡ true → Kept T list s
  pub all : (i : ℕ) → i < j → get_or list i 0 ≡ 1 → member kept (step_at T i).from ≡ true

pub kept_none : (T : Table) (list : List ℕ) → KeptBefore T list 0 0
kept_none T list = record {
  small = omega arith;
  sound = λ s e. absurd (false≢true (sym (member-zero s) ∙ e));
  all = λ i h k. absurd (omega arith);
}

module _ (T : Table) (list : List ℕ) (j kept : ℕ) (b : KeptBefore T list j kept) where
  pub kept_with : j < length T.steps → get_or list j 0 ≡ 1 → (step_at T j).from < 32 → (k : ℕ)
      → k ≡ set_of 32 (λ t. member kept t || eqb t (step_at T j).from)
      → KeptBefore T list (j + 1) k
  kept_with h one l k e = rw e (record {
    small = set_of-lt 32 _;
    sound = λ s m. ⊎_elim (b.sound s)
        (λ q. rw (eqb-true s (step_at T j).from q) ((step_at T j).to, next_at T list j h one))
        (or_parts (member kept s) _ ((in_set 32 _ s).0 m).1);
    all = below_more (λ i. get_or list i 0 ≡ 1 → member _ (step_at T i).from ≡ true) j
        (λ i l' o. let m = b.all i l' o in (in_set 32 _ _).1 (
          member_inside 32 kept _ b.small m,
          or_left (member kept _) _ m,
        ))
        (λ o. (in_set 32 _ _).1 (l, or_right (member kept _) _ (eq-eqb (step_at T j).from _ refl)));
  })

  pub kept_without : ¬ (get_or list j 0 ≡ 1) → KeptBefore T list (j + 1) kept
  kept_without d = record {
    small = b.small;
    sound = b.sound;
    all = below_more (λ i. get_or list i 0 ≡ 1 → member kept (step_at T i).from ≡ true) j b.all (λ o. absurd (d o));
  }

pub kept_all : (T : Table) (list : List ℕ) (j kept : ℕ) → KeptBefore T list j kept → length T.steps ≤ j
    → kept ≡ set_of 32 (is_kept T list)
kept_all T list j kept b done =
    set_of_unique 32 (is_kept T list) kept b.small (λ s h. same_test (member kept s) (is_kept T list s)
    (λ e. (is_kept_lem T list s).1 (b.sound s e))
    (λ e. let r = (is_kept_lem T list s).0 e in rw r.1.leaves at (b.all r.1.step (omega (arith, r.1.listed)) r.1.kept)))

-- ---- a round of reaching

-- the set, and the ends of the kept steps before j out of it
pub record RoundBefore (T : Table) (list : List ℕ) (set j next : ℕ) : Type 0 where
  pub small : next < 2 ^ 32
  pub has_set : (s : ℕ) → member set s ≡ true → member next s ≡ true
  pub has_ends : (i : ℕ) → i < j → get_or list i 0 ≡ 1 → member set (step_at T i).from ≡ true
      → member next (step_at T i).to ≡ true
  pub no_other : ((s : ℕ) → member set s ≡ true → Reached T list s) → (s : ℕ) → member next s ≡ true → Reached T list s

pub round_none : (T : Table) (list : List ℕ) (set : ℕ) → set < 2 ^ 32 → RoundBefore T list set 0 set
round_none T list set small = record {
  small = small;
  has_set = λ s e. e;
  has_ends = λ i h k m. absurd (omega arith);
  no_other = λ all. all;
}

module _ (T : Table) (list : List ℕ) (set j next : ℕ) (b : RoundBefore T list set j next) where
  pub round_with : j < length T.steps → get_or list j 0 ≡ 1 → (step_at T j).to < 32 → (k : ℕ)
      → k ≡ set_of 32 (λ t. member next t || (member next (step_at T j).from && eqb t (step_at T j).to))
      → RoundBefore T list set (j + 1) k
  round_with h one l k e = rw e (record {
    small = set_of-lt 32 _;
    has_set = λ s m. still s (b.has_set s m);
    has_ends = below_more (λ i. get_or list i 0 ≡ 1 → member set (step_at T i).from ≡ true
        → member _ (step_at T i).to ≡ true) j
        (λ i l' o m. still _ (b.has_ends i l' o m))
        (λ o m. (in_set 32 _ _).1 (
          l,
          or_right (member next _) _ (parts_and _ _ (b.has_set _ m) (eq-eqb (step_at T j).to _ refl)),
        ));
    no_other = λ all s m. ⊎_elim (b.no_other all s)
        (λ q. let p = and_parts (member next (step_at T j).from) _ q in
        rw (eqb-true s (step_at T j).to p.1) (reached_on T list _ _ (b.no_other all _ p.0) (next_at T list j h one)))
        (or_parts (member next s) _ ((in_set 32 _ s).0 m).1);
  })
    where
      still : (s : ℕ) → member next s ≡ true
          → member (set_of 32 (λ t. member next t || (member next (step_at T j).from && eqb t (step_at T j).to))) s
          ≡ true
      still s m = (in_set 32 _ s).1 (member_inside 32 next s b.small m, or_left (member next s) _ m)

  pub round-without : ¬ (get_or list j 0 ≡ 1) → RoundBefore T list set (j + 1) next
  round-without d = record {
    small = b.small;
    has_set = b.has_set;
    has_ends = below_more (λ i. get_or list i 0 ≡ 1 → member set (step_at T i).from ≡ true
        → member next (step_at T i).to ≡ true) j b.has_ends (λ o. absurd (d o));
    no_other = b.no_other;
  }

pub round-all : (T : Table) (list : List ℕ) (set j next : ℕ) → RoundBefore T list set j next → length T.steps ≤ j
    → Round T list set next
round-all T list set j next b done = record {
  small = b.small;
  has_set = b.has_set;
  has_ends = λ s t h m. rw h.enters at (b.has_ends h.step (omega (arith, h.listed)) h.kept (rw h.leaves m));
  no_other = b.no_other;
}
