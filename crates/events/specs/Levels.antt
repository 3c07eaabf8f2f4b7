-- The levels of a fixed-point node as the code goes through them.
use Rattle.std.specs.Prelude.{ℕ, ◌<◌, ◌≡◌, Bool, true, false, ◌&&◌, eqb, Option, None, Some, length}
use Rattle.std.specs.Int.Bits.{bit_and}
use Rattle.sets.specs.Member.{member}
use Rattle.table.specs.Table.{Table, node_at}
use Rattle.ctl.specs.Rule.{Quantifier, fixpoint, operator_of}
use Rattle.rows.specs.declared.row.Row.{Row}
use Rattle.rows.specs.Row.{same_row}
use Rattle.propagate.specs.declared.level.Fixpoint.{Fixpoint}
use Rattle.readers.specs.Readers.{first_word}
use Rattle.closure.specs.Dual.{is_every}
use Rattle.closure.specs.Knowledge.{Knowledge, level_base}
use Rattle.closure.specs.Rest.{RestLevel}
use Rattle.events.specs.declared.levels.Seen.{Seen}

-- a fixed-point node of the table, with where its levels and their words lie
pub record IsFixpoint (T : Table) (x : Fixpoint) : Type 0 where
  pub below : x.node < length T.nodes
  pub quantifier : Quantifier
  pub is : operator_of (node_at T x.node) ≡ fixpoint x.family quantifier x.a x.b
  pub every : x.every ≡ is_every quantifier
  pub base : x.base ≡ level_base T x.node
  pub word : x.word ≡ first_word T x.node

-- a level seen last had these rows, and was looked at at all states of a set
abbrev pub alike : Option Seen → ℕ → Row → Row → Bool
alike None look level below = false
alike (Some r) look level below = same_row r.level level && same_row r.below below && eqb (bit_and look r.look) look

-- what the level seen last had, at rest at the states at which it was looked at
abbrev pub SeenRest : Table → Fixpoint → Option Seen → Knowledge → Type 0
SeenRest T x seen K = (r : Seen) → seen ≡ Some r → (q : Quantifier) → x.every ≡ is_every q
    → (s : ℕ) → s < length T.states → member r.look s ≡ true → RestLevel T K x.family q x.a x.b r.level r.below s
