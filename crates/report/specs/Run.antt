-- What program `fit` writes for what it reads, where the bytes of its reader and of its writer are known. Those of
-- standard input and output are not, but nothing in the program asks which reader and writer it has.
use Rattle.std.specs.Prelude.{◌≡◌, List, ℕ, ◌++◌, ⊤, Option, None, Some}
use Rattle.report.specs.Report.{fit_text}
use Rattle.report.specs.Exact.{FitSays, NoneSays, ListSays, RefusedSays}

-- of a reader that had this text, and a writer that had these bytes: what is printed for the text stands behind them
abbrev pub Printed : Option (List ℕ) → Option (List ℕ) → Option (List ℕ) → Type 0
Printed (Some text) (Some before) (Some after) = after ≡ before ++ fit_text text
Printed (Some text) (Some before) None = ⊥
Printed (Some text) None after = ⊤
Printed None before after = ⊤

-- the same, by what it says of the text
abbrev pub WrittenSays : Option (List ℕ) → Option (List ℕ) → Option (List ℕ) → Type 0
WrittenSays (Some text) (Some before) (Some after) =
    (printed : List ℕ)
    × (after ≡ before ++ printed)
    × FitSays text printed
    × NoneSays text printed
    × ListSays text printed
    × RefusedSays text printed
WrittenSays (Some text) (Some before) None = ⊥
WrittenSays (Some text) None after = ⊤
WrittenSays None before after = ⊤
