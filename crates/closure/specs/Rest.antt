-- At rest: the rules at a state add nothing, and nothing is known both ways there. Where the rules at every state are
-- at rest, the rows hold all that is forced, whatever the order in which they got there.
use Rattle.std.specs.Prelude.{ℕ, suc, ◌<◌, ◌≡◌, Bool, true, false, cond, eqb, length}
use Rattle.sets.specs.Member.{member, set_of}
use Rattle.table.specs.declared.operator.Family.{Family}
use Rattle.table.specs.Table.{Table, state_at, node_at, initial_at}
use Rattle.table.specs.Rows.{target_set}
use Rattle.ctl.specs.Rule.{
  Quantifier,
  every,
  some,
  Operator,
  constant,
  atom,
  negation,
  conjunction,
  disjunction,
  next,
  fixpoint,
  operator_of,
  root_index,
}
use Rattle.rows.specs.declared.row.Row.{Row}
use Rattle.rows.specs.declared.joined.Joined.{Joined}
use Rattle.rows.specs.Row.{known, turn, WithinAt, Within, ClearAt}
use Rattle.rows.specs.Rules.{
  ahead_row,
  back_steps,
  back_end,
  and_output,
  and_input,
  join_of,
  inner_of,
  new_of,
  kept_row,
  kept_back,
  open_starts,
  start_kept,
  start_root,
  constant_row,
}
use Rattle.closure.specs.Dual.{is_every}
use Rattle.closure.specs.Knowledge.{Knowledge}

-- the states whose label has p
abbrev pub labelled_set : Table → ℕ → ℕ
labelled_set T p = set_of (length T.states) (λ s. member (state_at T s).label p)

abbrev pub initial_set : Table → ℕ
initial_set T = set_of (length T.states) (initial_at T)

-- the states of a constant
abbrev pub constant_set : Table → Bool → ℕ
constant_set T b = set_of (length T.states) (λ s. b)

module _ (T : Table) (K : Knowledge) where
  -- N of each state over what is known at the ends, for A or for E
  abbrev pub ahead_of : Quantifier → Row → Row
  ahead_of q end = turn (is_every q) (ahead_row (target_set T.steps) K.steps (length T.states) (turn (is_every q) end))

  -- N at state s, known as `ahead` says, adds nothing to the steps out of s, nor to `end`. Where the ends themselves
  -- say what N is, it never does: only what is known of N besides is taken back.
  pub record RestBack (q : Quantifier) (ahead end : Row) (s : ℕ) : Type 0 where
    pub steps : Within (back_steps (target_set T.steps s) (K.steps s) (turn (is_every q) end)
        (known (turn (is_every q) ahead) true s) (known (turn (is_every q) ahead) false s)) (K.steps s)
    pub ends : Within (back_end (target_set T.steps s) (K.steps s) (turn (is_every q) end)
        (known (turn (is_every q) ahead) true s) (known (turn (is_every q) ahead) false s)) (turn (is_every q) end)

  -- K of s and the steps out of s
  pub record RestKept (s : ℕ) : Type 0 where
    pub up : Within (kept_row s (target_set T.steps s) (K.steps s)) K.kept
    pub down : Within (kept_back s (target_set T.steps s) (K.steps s) K.kept) (K.steps s)
    pub clear : (t : ℕ) → ClearAt t (K.steps s)
    pub clear_kept : ClearAt s K.kept

  -- the demands of the initial states
  pub record RestStart : Type 0 where
    pub some_open : open_starts (initial_set T) K.kept ≡ 0 → ⊥
    pub kept : Within (start_kept (initial_set T) K.kept (K.nodes (root_index T))) K.kept
    pub root : Within (start_root (initial_set T) K.kept) (K.nodes (root_index T))

  -- AND (or, by duals, OR) of the nodes a and b, at state s
  pub record RestBoth (q : Quantifier) (i a b s : ℕ) : Type 0 where
    pub up : WithinAt s (and_output (turn (is_every q) (K.nodes i)) (turn (is_every q) (K.nodes a))
        (turn (is_every q) (K.nodes b))) (turn (is_every q) (K.nodes i))
    pub left : WithinAt s (and_input (turn (is_every q) (K.nodes i)) (turn (is_every q) (K.nodes b)))
        (turn (is_every q) (K.nodes a))
    pub right : WithinAt s (and_input (turn (is_every q) (K.nodes i)) (turn (is_every q) (K.nodes a)))
        (turn (is_every q) (K.nodes b))

  -- one input: the value passes both ways
  pub record RestSame (r q : Row) (s : ℕ) : Type 0 where
    pub up : WithinAt s q r
    pub down : WithinAt s r q

  -- what a level of a fixed-point node joins over the one below it, by their rows
  abbrev pub join_level : Family → Quantifier → ℕ → ℕ → Row → Row → Joined
  join_level fam q a b level below = join_of fam level (K.nodes a) (K.nodes b) (ahead_of q below)

  -- and what it has for G
  abbrev pub inner_level : Family → Quantifier → ℕ → ℕ → Row → Row → Row
  inner_level fam q a b level below = inner_of fam level (K.nodes a) (K.nodes b) (ahead_of q below)

  -- a level over the one below it, at state s
  pub record RestLevel (fam : Family) (q : Quantifier) (a b : ℕ) (level below : Row) (s : ℕ) : Type 0 where
    pub inner_clear : ClearAt s (inner_level fam q a b level below)
    pub ahead_clear : ClearAt s (join_level fam q a b level below).ahead
    pub up : WithinAt s (join_level fam q a b level below).level level
    pub left : WithinAt s (join_level fam q a b level below).a (K.nodes a)
    pub right : WithinAt s (join_level fam q a b level below).b (K.nodes b)
    pub back : RestBack q (join_level fam q a b level below).more below s
    pub clear : ClearAt s level

  -- node i, whose operator is given, at state s
  abbrev pub RestNode : ℕ → Operator → ℕ → Type 0
  RestNode i (constant b) s = WithinAt s (constant_row (length T.states) (constant_set T b)) (K.nodes i)
  RestNode i (atom p) s = WithinAt s (constant_row (length T.states) (labelled_set T p)) (K.nodes i)
  RestNode i (negation a) s = RestSame (K.nodes i) (turn false (K.nodes a)) s
  RestNode i (conjunction a b) s = cond (eqb a b) (RestSame (K.nodes i) (K.nodes a) s) (RestBoth every i a b s)
  RestNode i (disjunction a b) s = cond (eqb a b) (RestSame (K.nodes i) (K.nodes a) s) (RestBoth some i a b s)
  RestNode i (next q a) s = WithinAt s (ahead_of q (K.nodes a)) (K.nodes i)
      × RestBack q (new_of (K.nodes i) (ahead_of q (K.nodes a))) (K.nodes a) s
  RestNode i (fixpoint fam q a b) s = (m : ℕ) → m < length T.states
      → RestLevel fam q a b (K.levels i (suc m)) (K.levels i m) s

  pub record Rest : Type 0 where
    pub kept : (s : ℕ) → s < length T.states → RestKept s
    pub start : RestStart
    pub nodes : (i : ℕ) → i < length T.nodes → (s : ℕ) → s < length T.states → RestNode i (operator_of (node_at T i)) s
    pub clear : (i : ℕ) → i < length T.nodes → (s : ℕ) → s < length T.states → ClearAt s (K.nodes i)
    -- level 0 of a fixed-point node is its second child's row, level n its own
    pub first : (i : ℕ) (fam : Family) (q : Quantifier) (a b : ℕ) → i < length T.nodes
        → operator_of (node_at T i) ≡ fixpoint fam q a b → K.levels i 0 ≡ K.nodes b
    pub last : (i : ℕ) (fam : Family) (q : Quantifier) (a b : ℕ) → i < length T.nodes
        → operator_of (node_at T i) ≡ fixpoint fam q a b → K.levels i (length T.states) ≡ K.nodes i
