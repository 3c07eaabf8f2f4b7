-- What the rows say of each variable of the circuit: a row and a place in it. Step gates, N and G have no row of
-- their own: theirs is worked out from the rows beside them.
use Prim.Native.Nat.{ℕ, pred}
use mathlib.Core.Path.{◌≡◌, sym, ap₂, ◌∙◌}
use mathlib.Core.Bool.{Bool, true, false, not, cond}
use mathlib.Core.List.{[], ◌∷◌}
use lib.Bits.{bit_and, bit_or}
use Rattle.table.specs.declared.operator.Family.{Family}
use Rattle.table.specs.Table.{Table, step_at, node_at}
use Rattle.table.specs.Rows.{target_set}
use Rattle.ctl.specs.Rule.{
  Quantifier,
  Operator,
  constant,
  atom,
  negation,
  conjunction,
  disjunction,
  next,
  fixpoint,
  operator_of,
}
use Rattle.circuit.specs.Logic.{Literal, opposite}
use Rattle.circuit.specs.Variables.{Var, step, kept, node, edge, ahead, inner, level}
use Rattle.rows.specs.declared.row.Row.{Row}
use Rattle.rows.specs.Row.{known, turn, WithinAt}
use Rattle.rows.specs.Rules.{row}
use Rattle.closure.specs.Dual.{is_every}
use Rattle.closure.specs.Knowledge.{Knowledge}
use Rattle.closure.specs.Rest.{join_level, inner_level}
use Rattle.closure.proofs.TurnedRows.{turned-known, turned_opposite}
use Rattle.closure.proofs.AndClosed.{AndRules, one_rules, two_rules}

-- the place of a variable in its row: the end of a step, or a state
unfoldable pub place_of : Table → Var → ℕ
place_of T (step j) = (step_at T j).to
place_of T (kept s) = s
place_of T (node i s) = s
place_of T (edge i m j) = (step_at T j).to
place_of T (ahead i m s) = s
place_of T (inner i m s) = s
place_of T (level i m s) = s

-- ---- rows that are not stored

-- The gates of the steps out of a state, by their ends: true where the step is struck, where its end is true, or
-- where N of the state is; false where the step is kept and its end is false.
abbrev pub edge_row : ℕ → Row → Row → Bool → Row
edge_row target out end t = row (bit_or (bit_or out.no end.yes) (cond t target 0)) (bit_and out.yes end.no)

abbrev pub nothing : Row
nothing = row 0 0

-- of a node that has levels, and of no other
abbrev pub of_levels : Operator → (Family → Quantifier → ℕ → ℕ → Row) → Row
of_levels (constant b) f = nothing
of_levels (atom p) f = nothing
of_levels (negation a) f = nothing
of_levels (conjunction a b) f = nothing
of_levels (disjunction a b) f = nothing
of_levels (next q a) f = nothing
of_levels (fixpoint fam q a b) f = f fam q a b

-- at state s the row g is the AND of x and y, as far as they are known
pub record AndRow (g x y : Row) (s : ℕ) : Type 0 where
  pub up : known x true s ≡ true → known y true s ≡ true → known g true s ≡ true
  pub left : known g true s ≡ true → known x true s ≡ true
  pub right : known g true s ≡ true → known y true s ≡ true
  pub no_left : known x false s ≡ true → known g false s ≡ true
  pub no_right : known y false s ≡ true → known g false s ≡ true
  pub last_left_lem : known g false s ≡ true → known y true s ≡ true → known x false s ≡ true
  pub last_right : known g false s ≡ true → known x true s ≡ true → known y false s ≡ true

module _ (T : Table) (K : Knowledge) where
  -- for A or for E, where N and the ends are known so
  abbrev pub edges_over : Quantifier → Row → Row → ℕ → Row
  edges_over q over end s = turn (is_every q)
      (edge_row (target_set T.steps s) (K.steps s) (turn (is_every q) end) (known (turn (is_every q) over) true s))

  -- N of level m of a fixed-point node
  abbrev pub ahead_level : Family → Quantifier → ℕ → ℕ → ℕ → ℕ → Row
  ahead_level fam q i a b m = (join_level T K fam q a b (K.levels i m) (K.levels i (pred m))).ahead

  -- the step gates of node i, whose operator is given, at level m out of state s
  unfoldable pub edges_at : Operator → ℕ → ℕ → ℕ → Row
  edges_at (constant b) i m s = nothing
  edges_at (atom p) i m s = nothing
  edges_at (negation a) i m s = nothing
  edges_at (conjunction a b) i m s = nothing
  edges_at (disjunction a b) i m s = nothing
  edges_at (next q a) i m s = edges_over q (K.nodes i) (K.nodes a) s
  edges_at (fixpoint fam q a b) i m s = edges_over q (ahead_level fam q i a b m) (K.levels i (pred m)) s

  -- its N, and its G
  unfoldable pub ahead_at : Operator → ℕ → ℕ → Row
  ahead_at o i m = of_levels o (λ fam q a b. ahead_level fam q i a b m)

  unfoldable pub inner_at : Operator → ℕ → ℕ → Row
  inner_at o i m = of_levels o (λ fam q a b. inner_level T K fam q a b (K.levels i m) (K.levels i (pred m)))

  -- ---- the row of a variable

  unfoldable pub row_of : Var → Row
  row_of (step j) = K.steps (step_at T j).from
  row_of (kept s) = K.kept
  row_of (node i s) = K.nodes i
  row_of (edge i m j) = edges_at (operator_of (node_at T i)) i m (step_at T j).from
  row_of (ahead i m s) = ahead_at (operator_of (node_at T i)) i m
  row_of (inner i m s) = inner_at (operator_of (node_at T i)) i m
  row_of (level i m s) = K.levels i m

  -- the literal is known
  abbrev pub Says : Literal Var → Type 0
  Says l = known (row_of l.var) l.sign (place_of T l.var) ≡ true

  -- the row of a literal, in which true means that the literal is, and its place
  pub record Is (l : Literal Var) (r : Row) (s : ℕ) : Type 0 where
    pub row_is : turn l.sign (row_of l.var) ≡ r
    pub place_is : place_of T l.var ≡ s

  module _ {l : Literal Var} {r : Row} {s : ℕ} (i : Is l r s) where
    says_known : known (row_of l.var) l.sign (place_of T l.var) ≡ known r true s
    says_known = sym (turned-known l.sign _ _) ∙ ap₂ (λ (r : Row) (s : ℕ). known r true s) i.row_is i.place_is

    says_opposite : known (row_of l.var) (not l.sign) (place_of T l.var) ≡ known r false s
    says_opposite = sym (turned_opposite l.sign _ _) ∙ ap₂ (λ (r : Row) (s : ℕ). known r false s) i.row_is i.place_is

    -- the literal is known where its row says so, and its opposite where the row says the opposite
    pub to_row : Says l → known r true s ≡ true
    to_row e = sym says_known ∙ e

    pub of_row : known r true s ≡ true → Says l
    of_row e = says_known ∙ e

    pub to_opposite : Says (opposite l) → known r false s ≡ true
    to_opposite e = sym says_opposite ∙ e

    pub of_opposite : known r false s ≡ true → Says (opposite l)
    of_opposite e = says_opposite ∙ e

  -- ---- gates of one and of two inputs, by their rows

  -- one input, with the same row at the same place
  pub one_row : {h x : Literal Var} {g p : Row} {s : ℕ} → Is h g s → Is x p s → WithinAt s p g → WithinAt s g p
      → AndRules Says h (x ∷ [])
  one_row {h} {x} ih ix up down = one_rules Says h x
      (λ e. of_row ih (up true (to_row ix e)))
      (λ e. of_row ix (down true (to_row ih e)))
      (λ e. of_opposite ih (up false (to_opposite ix e)))
      (λ e. of_opposite ix (down false (to_opposite ih e)))

  pub two_rows : {h x y : Literal Var} {g p q : Row} {s : ℕ} → Is h g s → Is x p s → Is y q s → ¬ (x ≡ y)
      → AndRow g p q s
      → AndRules Says h (x ∷ y ∷ [])
  two_rows {h} {x} {y} ih ix iy apart r = two_rules Says h x y apart
      (λ e f. of_row ih (r.up (to_row ix e) (to_row iy f)))
      (λ e. of_row ix (r.left (to_row ih e)))
      (λ e. of_row iy (r.right (to_row ih e)))
      (λ e. of_opposite ih (r.no_left (to_opposite ix e)))
      (λ e. of_opposite ih (r.no_right (to_opposite iy e)))
      (λ e f. of_opposite ix (r.last_left_lem (to_opposite ih e) (to_row iy f)))
      (λ e f. of_opposite iy (r.last_right (to_opposite ih e) (to_row ix f)))
