-- What the rows know lies in a set of literals: each bit is the literal of a variable of the table that is in the set.
use Rattle.std.specs.Prelude.{ℕ, ◌≤◌, ◌<◌, ◌≡◌, Bool, true, false, length}
use Rattle.table.specs.declared.operator.Family.{Family}
use Rattle.table.specs.Table.{Table, step_at, node_at}
use Rattle.ctl.specs.Rule.{Quantifier, fixpoint, operator_of}
use Rattle.circuit.specs.Logic.{Literal}
use Rattle.circuit.specs.Variables.{literal, Var, step, kept, level, value}
use Rattle.rows.specs.declared.row.Row.{Row}
use Rattle.rows.specs.Row.{known}
use Rattle.closure.specs.Knowledge.{Knowledge}

module _ (T : Table) (S : Literal Var → Type 0) where
  -- of a row of variables by state
  abbrev pub RowIn : (ℕ → Var) → Row → Type 0
  RowIn v r = (sign : Bool) (s : ℕ) → known r sign s ≡ true → (s < length T.states) × S (literal sign (v s))

  -- of the steps out of s, by their ends
  abbrev pub StepsIn : ℕ → Row → Type 0
  StepsIn s r = (sign : Bool) (t : ℕ) → known r sign t ≡ true
      → (j : ℕ) × (j < length T.steps) × ((step_at T j).from ≡ s) × ((step_at T j).to ≡ t) × S (literal sign (step j))

  pub record KnowledgeIn (K : Knowledge) : Type 0 where
    pub steps : (s : ℕ) → s < length T.states → StepsIn s (K.steps s)
    pub kept : RowIn kept K.kept
    pub nodes : (i : ℕ) → i < length T.nodes → RowIn (value T i) (K.nodes i)
    pub levels : (i : ℕ) (fam : Family) (q : Quantifier) (a b m : ℕ) → i < length T.nodes
        → operator_of (node_at T i) ≡ fixpoint fam q a b → m ≤ length T.states
        → RowIn (level i m) (K.levels i m)

  -- a variable of the table is in the set both ways
  abbrev pub Clash : Type 0
  Clash = (v : Var) × S (literal true v) × S (literal false v)
