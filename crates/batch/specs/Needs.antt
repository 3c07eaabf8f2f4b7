-- What the tables of a batch need.
use Rattle.std.specs.Prelude.{List, [], length, Option, Some, None, ℕ}
use Rattle.batch.specs.declared.measure.Needs.{Needs}
use Rattle.batch.specs.Batch.{most_variables}
use Rattle.batch.specs.Effect.{all_steps}

abbrev pub needs_of : Option (List (List ℕ)) → Option Needs
needs_of None = None
needs_of (Some ts) = Some (record { tables = length ts; steps = all_steps ts; variables = most_variables ts })

-- the tables, and no table where the bytes are none
abbrev pub tables_or_none : Option (List (List ℕ)) → List (List ℕ)
tables_or_none None = []
tables_or_none (Some ts) = ts
