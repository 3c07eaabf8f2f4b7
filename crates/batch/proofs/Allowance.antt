-- What a table uses of the cap, and what it leaves.
use Prim.Native.Nat.{ℕ, ◌+◌, ◌-◌, ◌≤◌, ◌<◌}
use native.Mathlib.Decide.{dec_lt}
use native.Mathlib.Omega.{arith}
use mathlib.Core.Path.{◌≡◌, ap, ◌∙◌}
use mathlib.Core.List.{List}
use Rattle.std.specs.Prelude.{Ok}
use Rattle.table.specs.Table.{table_of}
use Rattle.table.specs.Accept.{table_verdict}
use Rattle.table.proofs.Facts.{accepted}
use Rattle.search.specs.Search.{Outcome}
use Rattle.search.specs.TableSearch.{search_under, search_free}
use Rattle.search.specs.Right.{choices, settled, SearchIsRight}
use Rattle.search.proofs.Right.{search_is_right}
use Rattle.batch.specs.Batch.{used}

-- never more than the cap
pub used_most : (t : List ℕ) (cap : ℕ) → table_verdict t ≡ Ok tt → used t cap ≤ cap
used_most t cap ok =
    let right = search_is_right (table_of t) (accepted t ok).table in
    elim (dec_lt cap (choices (search_free (table_of t)))) [
      | yes h ↦ let e : used t cap ≡ cap = ap choices (right.spent_over cap h) in omega (arith, e)
      | no d ↦
          let h : choices (search_free (table_of t)) ≤ cap = omega (arith, d) in
          let e : used t cap ≡ choices (search_free (table_of t)) = ap choices (right.same_within cap h) in
          omega (arith, e, h)
    ]

pub adds : (t : List ℕ) (cap : ℕ) → table_verdict t ≡ Ok tt → used t cap + (cap - used t cap) ≡ cap
adds t cap ok = omega (arith, used_most t cap ok)
