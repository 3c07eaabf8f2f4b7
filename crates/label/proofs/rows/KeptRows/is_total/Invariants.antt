-- The loop's invariant: all rows pass exactly when those from the index on do.
use lib.ListN.{get_or, drop}
use mathlib.Core.Path.{◌≡◌}
use mathlib.Core.Bool.{not, ◌&&◌}
use lib.Dec.{eqb}
use Rattle.sets.specs.Member.{member, set_of}
use Rattle.table.specs.Accept.{all}
use Rattle.ctl.specs.Range.{below}
use Rattle.label.specs.Words.{total_rows}
use Rattle.label.proofs.rows.KeptRows.is_total.Given as goal

abbrev pub invariant-loop-row : goal.invariant-loop-row
invariant-loop-row l =
    total_rows l.self.rows l.self.kept
    ≡ all (λ s. eqb (set_of 32 (λ t. member (get_or l.self.rows s 0) t && not (member l.self.kept t))) 0)
    (drop l.row-index (below 32))
