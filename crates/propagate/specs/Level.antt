-- The levels of a fixed-point node, as a function of the memory: level 0 is the row of b and level n that of the
-- node; the others lie in the words from `base` on.
use Rattle.std.specs.Prelude.{ℕ, suc, ◌+◌, ◌*◌, ◌-◌, ◌≤◌, ◌<◌, ◌≡◌, Bool, cond, List, eqb, length}
use Rattle.table.specs.declared.operator.Family.{Family}
use Rattle.table.specs.declared.limits.TheConstants.{MOST_NODES}
use Rattle.rows.specs.declared.row.TheConstants.{ROW_WORDS}
use Rattle.rows.specs.declared.row.Row.{Row}
use Rattle.propagate.specs.declared.level.Fixpoint.{Fixpoint}
use Rattle.rows.specs.declared.joined.Joined.{Joined}
use Rattle.rows.specs.Rules.{masked, join_of}
use Rattle.rows.specs.Words.{row_at}
use Rattle.propagate.specs.Memory.{
  Memory,
  node_place,
  Stepped,
  failing,
  ◌and_then◌,
  add_row,
  add_word,
  node_row,
  ahead_in,
  go_back_more,
}

-- a family over a and b, at node i, with where its levels and their words lie
abbrev pub fixpoint_at : Family → ℕ → Bool → ℕ → ℕ → ℕ → ℕ → Fixpoint
fixpoint_at family i e a b base word = record {
  family = family;
  node = i;
  a = a;
  b = b;
  every = e;
  base = base;
  word = word;
}

module _ (n : ℕ) (x : Fixpoint) where
  abbrev pub level_at : ℕ → Memory → Row
  level_at m M =
      cond (eqb m 0) (node_row M x.b) (cond (eqb m n) (node_row M x.node) (row_at M.words (x.base + 2 * (m - 1))))

  abbrev pub add_level : ℕ → Row → Memory → Stepped
  add_level m r M =
      cond (eqb m 0) (add_row (node_place x.b) r M)
      (cond (eqb m n) (add_row (node_place x.node) r M) (add_word (x.base + 2 * (m - 1)) r M))

module _ (targets : List ℕ) (n : ℕ) (x : Fixpoint) (m : ℕ) where
  -- what the join of a level gives, added where it belongs
  abbrev pub add_joined : Joined → Memory → Stepped
  add_joined J M =
      failing J.fails M
      and_then add_level n x (suc m) J.level
      and_then add_row (node_place x.a) J.a
      and_then add_row (node_place x.b) J.b

  abbrev pub level_with : Row → Joined → Memory → Stepped
  level_with below J M = add_joined J M and_then go_back_more targets n x.every J.more below (add_level n x m)

  -- level m + 1 over level m, which is `below`, with N as its ends say, at the states of a set
  abbrev pub joined_at : ℕ → Row → Memory → Joined
  joined_at set below M =
      join_of x.family (masked set (level_at n x (suc m) M)) (masked set (node_row M x.a))
      (masked set (node_row M x.b)) (ahead_in targets set x.every below M)

  unfoldable pub level_step : ℕ → Memory → Stepped
  level_step set M = level_with (level_at n x m M) (joined_at set (level_at n x m M) M) M

-- the rows of a fixed-point node lie in the memory
pub record Fits (n : ℕ) (x : Fixpoint) (rows words : List ℕ) : Type 0 where
  pub rows_size : length rows ≡ ROW_WORDS
  pub node_below : x.node < MOST_NODES
  pub a_below : x.a < MOST_NODES
  pub b_below : x.b < MOST_NODES
  pub levels_below : x.base + 2 * (n - 1) ≤ length words

-- and so do the words of its levels, in those of the states to look at
abbrev pub HasWords : ℕ → Fixpoint → List ℕ → Type 0
HasWords n x looks = x.word + n ≤ length looks
