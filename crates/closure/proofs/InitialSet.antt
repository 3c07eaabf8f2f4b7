-- The set of the initial states: its members, and that it is a machine word.
use Prim.Native.Nat.{ℕ, ◌^◌, ◌<◌}
use native.Mathlib.Omega.{arith}
use mathlib.Core.Path.{◌≡◌}
use mathlib.Core.Bool.{true}
use mathlib.Core.Logic.{◌↔◌}
use borrow.Author.Tests.{eqb-true, eq-eqb}
use lib.ListN.{length}
use Rattle.sets.specs.Member.{member}
use Rattle.sets.proofs.SetOf.{in_set}
use Rattle.table.specs.Table.{Table}
use Rattle.table.specs.Facts.{Wellformed}
use Rattle.ctl.specs.Kept.{Initial}
use Rattle.rows.proofs.RowLaws.{set_small}
use Rattle.closure.specs.Rest.{initial_set}

pub initial_true : (T : Table) (s : ℕ) → (member (initial_set T) s ≡ true) ↔ Initial T s
initial_true T s = (
  λ m. let r = (in_set (length T.states) _ s).0 m in (r.0, eqb-true _ 1 r.1),
  λ i. (in_set (length T.states) _ s).1 (i.0, eq-eqb _ 1 i.1),
)

pub initial_small : (T : Table) → Wellformed T → initial_set T < 2 ^ 32
initial_small T wf = set_small (length T.states) (omega (arith, wf.few_states)) _
