-- The record of choices: its step gives the next record, or none at the cap. Specification, "Search".
use Rattle.std.specs.Prelude.{◌+◌, Bool, true, false, Option, Some, None}
use Rattle.search.specs.declared.choices.Choices.{Choices}
use Rattle.search.specs.Search.{capped}

abbrev pub next_count_if : Bool → Choices → Option Choices
next_count_if true c = None
next_count_if false c = Some (record { made = c.made + 1; cap = c.cap })

-- refused at the cap, else the count with one more
abbrev pub next_count : Choices → Option Choices
next_count c = next_count_if (capped c.cap c.made) c
