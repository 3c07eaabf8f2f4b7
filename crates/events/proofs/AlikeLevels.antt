-- A level like the one seen last: that one had nothing to add, and its rows are these.
use Prim.Native.Nat.{ℕ}
use mathlib.Core.Path.{◌≡◌, refl, ap, ◌∙◌}
use mathlib.Core.Bool.{true, ◌&&◌, false≢true}
use borrow.Author.Tests.{eqb-true}
use lib.Bits.{bit_and}
use lib.Dec.{eqb}
use Rattle.std.specs.Prelude.{Option, None, Some}
use Rattle.sets.specs.Member.{member}
use Rattle.table.proofs.Bools.{and_parts}
use Rattle.rows.specs.declared.row.Row.{Row}
use Rattle.rows.specs.Row.{same_row}
use Rattle.rows.proofs.RowLaws.{and-true}
use Rattle.events.specs.declared.levels.Seen.{Seen}
use Rattle.events.specs.Levels.{alike}

same_row_lem : (r q : Row) → same_row r q ≡ true → r ≡ q
same_row_lem r q e =
    let p = and_parts (eqb r.yes q.yes) (eqb r.no q.no) e in
    λ i. record { yes = eqb-true r.yes q.yes p.0 i; no = eqb-true r.no q.no p.1 i }

-- the level seen last, where it is like this one: it had these rows, and was looked at wherever this one is
pub record LikeSeen (seen : Option Seen) (look : ℕ) (level below : Row) : Type 0 where
  pub last : Seen
  pub is : seen ≡ Some last
  pub level_same : last.level ≡ level
  pub below_same : last.below ≡ below
  pub has : (s : ℕ) → member look s ≡ true → member last.look s ≡ true

pub alike_parts : (seen : Option Seen) (look : ℕ) (level below : Row) → alike seen look level below ≡ true
    → LikeSeen seen look level below
alike_parts None look level below e = absurd (false≢true e)
alike_parts (Some r) look level below e =
    let p = and_parts (same_row r.level level && same_row r.below below) (eqb (bit_and look r.look) look) e in
    let q = and_parts (same_row r.level level) (same_row r.below below) p.0 in
    record {
      last = r;
      is = refl;
      level_same = same_row_lem r.level level q.0;
      below_same = same_row_lem r.below below q.1;
      has = λ s m. ((and-true look r.look s).0
          (ap (λ (w : ℕ). member w s) (eqb-true (bit_and look r.look) look p.1) ∙ m)).1;
    }
