-- What N at one state adds to the steps out of it, and to what is known at their ends.
use Rattle.std.specs.Prelude.{ℕ, Bool}
use Rattle.rows.specs.declared.row.Row.{Row}
use Rattle.rows.specs.declared.next.Pushed.{Pushed}
use Rattle.rows.specs.Rules.{back_steps, back_end}

abbrev pub pushed : ℕ → Row → Row → Bool → Bool → Pushed
pushed target step end t f = record { steps = back_steps target step end t f; end = back_end target step end t f }
