-- What a row knows that another does not: it is of what the row knows. A row that knows nothing has no state.
use Prim.Native.Nat.{ℕ}
use mathlib.Core.Path.{◌≡◌, sym, ◌∙◌}
use mathlib.Core.Bool.{Bool, true, false, true≢false}
use mathlib.Core.Logic.{inl, inr}
use lib.Bits.{bit_or}
use Rattle.table.specs.Table.{Table}
use Rattle.circuit.specs.Logic.{Literal}
use Rattle.circuit.specs.Variables.{Var}
use Rattle.rows.specs.declared.row.Row.{Row}
use Rattle.rows.specs.Row.{known, turn, Within}
use Rattle.rows.specs.Rules.{new_of, is_none}
use Rattle.rows.specs.Words.{SmallRow}
use Rattle.rows.proofs.RowLaws.{or-true, empty_none, without-true}
use Rattle.closure.specs.KnowledgeIn.{RowIn}

pub new_within : (r q : Row) → SmallRow q → Within (new_of r q) r
new_within r q h s true m = ((without-true r.yes q.yes s h.0).0 m).1
new_within r q h s false m = ((without-true r.no q.no s h.1).0 m).1

pub new_in : (T : Table) (S : Literal Var → Type 0) (v : ℕ → Var) (r q : Row) → SmallRow q → RowIn T S v r
    → RowIn T S v (new_of r q)
new_in T S v r q h given sign s m = given sign s (new_within r q h s sign m)

pub none_known : (e : Bool) (r : Row) → is_none r ≡ true → (sign : Bool) (s : ℕ) → known (turn e r) sign s ≡ true → ⊥
none_known e r none sign s = at e sign
  where
    not_yes : known r true s ≡ true → ⊥
    not_yes m = true≢false (sym ((or-true r.yes r.no s).1 (inl m)) ∙ empty_none (bit_or r.yes r.no) none s)

    not-no : known r false s ≡ true → ⊥
    not-no m = true≢false (sym ((or-true r.yes r.no s).1 (inr m)) ∙ empty_none (bit_or r.yes r.no) none s)

    at : (e sign : Bool) → known (turn e r) sign s ≡ true → ⊥
    at true true = not_yes
    at true false = not-no
    at false true = not-no
    at false false = not_yes
