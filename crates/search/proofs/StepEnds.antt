-- A step of an accepted table leaves a state below 32.
use Prim.Native.Nat.{ℕ, ◌<◌}
use mathlib.Core.Path.{◌≡◌}
use mathlib.Core.List.{List}
use native.Mathlib.Omega.{arith}
use lib.ListN.{length}
use Rattle.std.specs.Prelude.{Ok}
use Rattle.table.specs.Table.{table_of, step_at}
use Rattle.table.specs.Accept.{table_verdict}
use Rattle.table.proofs.Facts.{accepted}

pub from_below : (bytes : List ℕ) (j : ℕ) → table_verdict bytes ≡ Ok tt → j < length (table_of bytes).steps
    → (step_at (table_of bytes) j).from < 32
from_below bytes j ok h =
    let wf = (accepted bytes ok).table in omega (arith, wf.from_state j h, wf.few_states)
