-- For which table and buffers Repair gives each of its refusals.
use Rattle.std.specs.Prelude.{ℕ, ◌<◌, ◌⊎◌, List, length}
use Rattle.table.specs.declared.refusal.Refusal.{Refusal}
use Rattle.table.specs.declared.refusal.Refusal.TheVariants.{ShortBuffer}
use Rattle.table.specs.Table.{table_of}
use Rattle.table.specs.Facts.{IsTable}
use Rattle.table.specs.Refused.{TableRefused}
use Rattle.circuit.specs.Variables.{variable_formula}

-- the list has no byte for some step, or one of the work buffers no entry for some variable of the circuit
abbrev pub TooShort : List ℕ → List ℕ → List ℕ → List ℕ → Type 0
TooShort table list bytes words =
    (length list < length (table_of table).steps)
    ⊎ ((length bytes < variable_formula (table_of table)) ⊎ (length words < variable_formula (table_of table)))

-- a short buffer is refused of a table that passes its tests; every other refusal is the table's
abbrev pub RepairRefused : List ℕ → List ℕ → List ℕ → List ℕ → Refusal → Type 0
RepairRefused table list bytes words ShortBuffer = IsTable table × TooShort table list bytes words
RepairRefused table list bytes words r = TableRefused table r
