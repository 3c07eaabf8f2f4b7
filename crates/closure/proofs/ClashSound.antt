-- A row that knows something both ways: its variable is in the set both ways.
use Prim.Native.Nat.{ℕ}
use mathlib.Core.Path.{◌≡◌, sym, subst}
use mathlib.Core.Bool.{Bool, true, false}
use mathlib.Core.List.{Memᴰ}
use Rattle.table.specs.Table.{Table}
use Rattle.table.specs.Facts.{Wellformed}
use Rattle.circuit.specs.Logic.{Literal}
use Rattle.circuit.specs.Variables.{Var, step}
use Rattle.circuit.specs.Clauses.{Clause, clauses}
use Rattle.rows.specs.declared.row.Row.{Row}
use Rattle.rows.specs.Row.{known, turn, clashes}
use Rattle.rows.specs.Words.{SmallRow}
use Rattle.rows.proofs.RowLaws.{clash_state}
use Rattle.closure.specs.KnowledgeIn.{RowIn, StepsIn, Clash}
use Rattle.closure.proofs.Forced.{ClauseClosed}
use Rattle.closure.proofs.SetsIn.{step_known_lem}

module _ (T : Table) (wf : Wellformed T) (S : Literal Var → Type 0) (closed : (C : Clause) → Memᴰ C (clauses T)
    → ClauseClosed S C) where
  pub clash_in : (v : ℕ → Var) (r : Row) → SmallRow r → RowIn T S v r → clashes r ≡ true → Clash T S
  clash_in v r small p e = let c = clash_state r small e in (v c.0, (p true c.0 c.1).1, (p false c.0 c.2).1)

  -- so of its dual
  pub clash_in_turned : (e : Bool) (v : ℕ → Var) (r : Row) → SmallRow r → RowIn T S v (turn e r) → clashes r ≡ true
      → Clash T S
  clash_in_turned true v r small p c = clash_in v r small p c
  clash_in_turned false v r small p c = let k = clash_state r small c in (
    v k.0,
    (p true k.0 k.2).1,
    (p false k.0 k.1).1,
  )

  -- of steps: two with the same ends are one step
  pub clash_steps_in : (s : ℕ) (r : Row) → SmallRow r → StepsIn T S s r → clashes r ≡ true → Clash T S
  clash_steps_in s r small p e =
      let c = clash_state r small e in
      let k = p true c.0 c.1 in (
        step k.0,
        k.4,
        step_known_lem T S wf s r p k.0 k.1 k.2 false
            (subst (λ (t : ℕ). known r false t ≡ true) (sym k.3) c.2),
      )
