-- The lines that program `fit` prints. Specification, "Programs".
use Rattle.std.specs.Prelude.{ℕ, List, [], ◌∷◌, ◌++◌}
use Rattle.table.specs.declared.record.Step.{Step}
use Rattle.table.specs.declared.refusal.Refusal.{Refusal}
use Rattle.table.specs.Verdict.{refusal_number}
use Rattle.table.specs.Table.{steps_of}
use Rattle.sheet.specs.Form.{ascii, line}

-- the most choices that the program makes
abbrev pub cap : ℕ
cap = 1000000

-- found, none and spent come with the choices and the price, refused with the refusal's number
abbrev pub counted : List ℕ → ℕ → ℕ → List ℕ
counted word choices price = ascii "answer choices price\n" ++ (word ++ line (choices ∷ price ∷ []))

abbrev pub refused : Refusal → List ℕ
refused r = ascii "answer number\nrefused " ++ line (refusal_number r ∷ [])

-- a line for each step: from, to, and 1 kept or 0 struck
abbrev pub kept_line : Step → ℕ → List ℕ
kept_line x kept = line (x.from ∷ x.to ∷ kept ∷ [])

unfoldable pub kept_lines : List Step → List ℕ → List ℕ
kept_lines [] list = []
kept_lines (x ∷ steps) [] = []
kept_lines (x ∷ steps) (kept ∷ list) = kept_line x kept ++ kept_lines steps list

-- where a repair is found, the list as well
abbrev pub found_text : List ℕ → ℕ → ℕ → List ℕ → List ℕ
found_text table price choices list =
    counted (ascii "found ") choices price ++ (ascii "from to kept\n" ++ kept_lines (steps_of table) list)
