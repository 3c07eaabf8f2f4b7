-- The rows that the rules make of machine words are machine words.
use Prim.Native.Nat.{ℕ, ◌^◌, ◌<◌}
use native.Mathlib.Omega.{arith}
use mathlib.Core.Bool.{Bool, false, ◌&&◌}
use lib.Bits.{and_lt, or_lt}
use Rattle.sets.specs.Member.{member}
use Rattle.sets.proofs.SetOf.{set_of-lt}
use Rattle.table.specs.declared.operator.Family.{Family}
use Rattle.table.specs.declared.operator.Family.TheVariants.{Release, Until, Eventually, Always}
use Rattle.rows.specs.declared.row.Row.{Row}
use Rattle.rows.specs.declared.joined.Joined.{Joined}
use Rattle.rows.specs.Row.{turn, only}
use Rattle.rows.specs.Words.{SmallRow}
use Rattle.rows.specs.Rules.{
  row,
  unmet,
  ahead_row,
  last_left,
  back_steps,
  back_end,
  and_output,
  and_input,
  either_row,
  join_release,
  join_always,
  falls,
  join_falling,
  turn_joined,
  join_of,
  unstruck,
  kept_row,
  kept_back,
  open_starts,
  start_kept,
  start_root,
  constant_row,
}
use Rattle.rows.proofs.RowLaws.{without_small, cond_small, set_small, turned_small}

pub none_small : SmallRow (row 0 0)
none_small = (omega arith, omega arith)

pub constant_small : (n set : ℕ) → set < 2 ^ 32 → SmallRow (constant_row n set)
constant_small n set h = (h, without_small _ set (set_of-lt 32 _))

-- ---- N

pub ahead_small : (target : ℕ → ℕ) (step : ℕ → Row) (n : ℕ) (end : Row) → n < 33
    → SmallRow (ahead_row target step n end)
ahead_small target step n end h = (set_small n h _, set_small n h _)

module _ (target : ℕ) (step end : Row) (t f : Bool) (target_small : target < 2 ^ 32) (step_small : SmallRow step)
    (end-small : SmallRow end) where
  left_small : last_left target step end f < 2 ^ 32
  left_small = cond_small (f && only (unmet target step end)) _ (without_small target _ target_small)

  pub back_steps_small : SmallRow (back_steps target step end t f)
  back_steps_small = (left_small, cond_small t _ (and_lt 32 target end.no target_small end-small.1))

  pub back_end_small : SmallRow (back_end target step end t f)
  back_end_small = (cond_small t step.yes step_small.0, left_small)

-- ---- AND, and a level

pub output_small : (g a b : Row) → SmallRow g → SmallRow a → SmallRow b → SmallRow (and_output g a b)
output_small g a b G A B = (
  or_lt 32 g.yes _ G.0 (and_lt 32 a.yes b.yes A.0 B.0),
  or_lt 32 g.no _ G.1 (or_lt 32 a.no b.no A.1 B.1),
)

pub input_small : (g b : Row) → SmallRow g → SmallRow b → SmallRow (and_input g b)
input_small g b G B = (G.0, and_lt 32 g.no b.yes G.1 B.0)

-- the rows that a level joins
pub record SmallJoined (J : Joined) : Type 0 where
  pub level : SmallRow J.level
  pub a : SmallRow J.a
  pub b : SmallRow J.b
  pub ahead : SmallRow J.ahead

module _ (l a b N : Row) (L : SmallRow l) (A : SmallRow a) (B : SmallRow b) (H : SmallRow N) where
  pub either_small : SmallRow (either_row l a b N)
  either_small = (
    or_lt 32 _ l.yes (or_lt 32 a.yes N.yes A.0 H.0) L.0,
    or_lt 32 _ _ (and_lt 32 a.no N.no A.1 H.1) (and_lt 32 l.no b.yes L.1 B.0),
  )

  pub release_small : SmallJoined (join_release l a b N)
  release_small = record {
    level = (and_lt 32 b.yes _ B.0 either_small.0, or_lt 32 b.no _ B.1 either_small.1);
    a = (and_lt 32 _ N.no either_small.0 H.1, either_small.1);
    b = (L.0, and_lt 32 l.no _ L.1 either_small.0);
    ahead = (or_lt 32 N.yes _ H.0 (and_lt 32 _ a.no either_small.0 A.1), or_lt 32 N.no _ H.1 either_small.1);
  }

pub always_small : (l b N : Row) → SmallRow l → SmallRow b → SmallRow N → SmallJoined (join_always l b N)
always_small l b N L B H =
    let up = output_small l b N L B H in
    let back = input_small (and_output l b N) b up B in
    record {
      level = up;
      a = none_small;
      b = input_small (and_output l b N) N up H;
      ahead = (or_lt 32 N.yes _ H.0 back.0, or_lt 32 N.no _ H.1 back.1);
    }

turned-joined_small : (e : Bool) (J : Joined) → SmallJoined J → SmallJoined (turn_joined e J)
turned-joined_small e J small = record {
  level = turned_small e J.level small.level;
  a = turned_small e J.a small.a;
  b = turned_small e J.b small.b;
  ahead = turned_small e J.ahead small.ahead;
}

module _ (fam : Family) (l a b N : Row) (L : SmallRow l) (A : SmallRow a) (B : SmallRow b) (H : SmallRow N) where
  pub join_small : SmallJoined (join_of fam l a b N)
  join_small = turned-joined_small (falls fam) _ (go fam)
    where
      go : (fam : Family) → SmallJoined
          (join_falling fam (turn (falls fam) l) (turn (falls fam) a) (turn (falls fam) b) (turn (falls fam) N))
      go Release = release_small l a b N L A B H
      go Until = release_small _ _ _ _ (turned_small false l L) (turned_small false a A) (turned_small false b B)
          (turned_small false N H)
      go Eventually = always_small _ _ _ (turned_small false l L) (turned_small false b B) (turned_small false N H)
      go Always = always_small l b N L B H

-- ---- K and the initial states

pub kept_small : (s target : ℕ) (step : Row) → SmallRow step → SmallRow (kept_row s target step)
kept_small s target step h = (or_lt 32 step.yes _ h.0 (set_of-lt 32 _), set_of-lt 32 _)

pub kept_back_small : (s target : ℕ) (step kept : Row) → target < 2 ^ 32 → SmallRow kept
    → SmallRow (kept_back s target step kept)
kept_back_small s target step kept h k = (
  cond_small (member kept.yes s && only (unstruck target step)) _ (without_small target _ h),
  or_lt 32 _ _ (cond_small (member kept.no s) target h) (and_lt 32 target kept.no h k.1),
)

pub start_kept_small : (initial : ℕ) (kept root : Row) → initial < 2 ^ 32 → SmallRow root
    → SmallRow (start_kept initial kept root)
start_kept_small initial kept root h r = (
  cond_small (only (open_starts initial kept)) _ (without_small initial _ h),
  and_lt 32 root.no initial r.1 h,
)

pub start_root_small : (initial : ℕ) (kept : Row) → initial < 2 ^ 32 → SmallRow kept
    → SmallRow (start_root initial kept)
start_root_small initial kept h k = (and_lt 32 kept.yes initial k.0 h, omega arith)
