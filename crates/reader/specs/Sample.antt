-- A sheet of 3 states, 4 steps and 5 nodes, with the prices 1 to 4, and its packed table of 40 bytes.
use Rattle.std.specs.Prelude.{ℕ, ◌≡◌, List, [], ◌∷◌, ◌++◌}
use Rattle.table.specs.Verdict.{verdict_number}
use Rattle.sheet.specs.Form.{ascii}
use Rattle.sheet.specs.Parse.{parse}
use Rattle.reader.specs.Read.{packed, read_verdict}

abbrev pub text : List ℕ
text =
    ascii "states edges nodes props\n3 4 5 1\ninitial label\n1 0\n0 1\n0 1\n"
    ++ ascii "from to price\n0 1 1\n1 0 2\n1 2 3\n2 2 4\n"
    ++ ascii "kind a b\n0 0 0\n2 0 0\n9 0 1\n3 2 0\n8 0 3\n"

abbrev pub table : List ℕ
table =
    (3 ∷ 4 ∷ 5 ∷ 1 ∷ [])
    ++ (1 ∷ 0 ∷ 0 ∷ 0 ∷ 1 ∷ 0 ∷ 0 ∷ 1 ∷ 0 ∷ [])
    ++ (0 ∷ 1 ∷ 1 ∷ 1 ∷ 0 ∷ 2 ∷ 1 ∷ 2 ∷ 3 ∷ 2 ∷ 2 ∷ 4 ∷ [])
    ++ (0 ∷ 0 ∷ 0 ∷ 2 ∷ 0 ∷ 0 ∷ 9 ∷ 0 ∷ 1 ∷ 3 ∷ 2 ∷ 0 ∷ 8 ∷ 0 ∷ 3 ∷ [])

-- the sheet is packed into the table; it is accepted into 40 bytes, and 10 is answered with one byte less
pub record SampleReads : Type 0 where
  pub bytes : packed (parse text) ≡ table
  pub fits : verdict_number (read_verdict text 40) ≡ 0
  pub short : verdict_number (read_verdict text 39) ≡ 10
