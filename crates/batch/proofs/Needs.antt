-- What the tables need, as it is worked out front to back, and that it is little.
use Prim.Native.Nat.{ℕ, zero, suc, ◌+◌, ◌*◌, ◌≤◌, ◌<◌}
use native.Mathlib.Omega.{arith}
use mathlib.Core.Path.{◌≡◌, refl, sym, ap, ◌∙◌}
use mathlib.Core.List.{List, [], ◌∷◌}
use lib.ListN.{length}
use Rattle.std.specs.Prelude.{Ok}
use Rattle.table.specs.Table.{table_of}
use Rattle.table.specs.Accept.{table_verdict}
use Rattle.table.proofs.Facts.{accepted}
use Rattle.batch.specs.Batch.{steps_in, steps_before}
use Rattle.batch.specs.Effect.{all_steps}
use Rattle.batch.proofs.Cut.{Each}

pub steps_few : (t : List ℕ) → table_verdict t ≡ Ok tt → steps_in t ≤ 128
steps_few t ok = (accepted t ok).table.few_steps

-- 128 steps a table at most
pub all_few : (ts : List (List ℕ)) → Each ts → all_steps ts ≤ 128 * length ts
unfolding Each all_steps
all_few [] each = omega arith
all_few (t ∷ ts) each = omega (arith, steps_few t each.0, all_few ts each.1)

-- the steps before the place behind the last table are all
pub before_all : (ts : List (List ℕ)) → steps_before ts (length ts) ≡ all_steps ts
unfolding steps_before all_steps
before_all [] = refl
before_all (t ∷ ts) = ap (λ (k : ℕ). steps_in t + k) (before_all ts)
