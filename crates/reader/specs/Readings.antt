-- What Read says to small texts, accepted and out of form, one number for each.
use Rattle.std.specs.Prelude.{ℕ, ◌≡◌, List, [], ◌∷◌, ◌++◌, map, replicate}
use Prim.Native.String.{String}
use Rattle.table.specs.Verdict.{verdict_number}
use Rattle.sheet.specs.Form.{ascii, concat_map}
use Rattle.reader.specs.Read.{read_verdict}

-- a sheet with this first line of values, this line for the one state, and this end
abbrev pub sheet : String → String → String → List ℕ
sheet counts state rest =
    ascii "states edges nodes props\n"
    ++ ascii counts
    ++ ascii "initial label\n"
    ++ ascii state
    ++ ascii "from to price\n0 0 1\nkind a b\n"
    ++ ascii rest

-- 33 states as counted, with so many lines
abbrev pub counted_33 : ℕ → List ℕ
counted_33 lines =
    ascii "states edges nodes props\n33 0 1 0\ninitial label\n"
    ++ concat_map ascii (replicate lines "1 0\n")
    ++ ascii "from to price\nkind a b\n1 0 0\n"

-- accepted
abbrev pub accepted : List (List ℕ)
accepted = sheet "1 1 1 0\n" "1 0\n" "1 0 0\n" ∷ []

-- no text, no last newline, a byte beyond, a blank line, a leading zero, two spaces, a space at a line's end, no
-- value, another name
abbrev pub out_of_form : List (List ℕ)
out_of_form =
    []
    ∷ sheet "1 1 1 0\n" "1 0\n" "1 0 0"
    ∷ sheet "1 1 1 0\n" "1 0\n" "1 0 0\n\n"
    ∷ sheet "1 1 1 0\n" "\n1 0\n" "1 0 0\n"
    ∷ sheet "1 1 1 0\n" "01 0\n" "1 0 0\n"
    ∷ sheet "1 1 1 0\n" "1  0\n" "1 0 0\n"
    ∷ sheet "1 1 1 0\n" "1 0 \n" "1 0 0\n"
    ∷ sheet "1 1 1 0\n" "1 \n" "1 0 0\n"
    ∷ (ascii "states steps nodes props\n1 0 1 0\ninitial label\n1 0\nfrom to price\nkind a b\n1 0 0\n")
    ∷ []

-- 256 in a byte's field and 65536 in a label are out of form
abbrev pub too_large : List (List ℕ)
too_large =
    sheet "1 1 1 256\n" "1 0\n" "1 0 0\n"
    ∷ sheet "1 1 1 0\n" "256 0\n" "1 0 0\n"
    ∷ sheet "1 1 1 16\n" "1 65536\n" "1 0 0\n"
    ∷ []

abbrev pub numbers : List (List ℕ) → List ℕ
numbers = map (λ text. verdict_number (read_verdict text 580))

-- the block of the one step as given
abbrev pub steps : String → List ℕ
steps block =
    ascii "states edges nodes props\n1 1 1 0\ninitial label\n1 0\n" ++ ascii block ++ ascii "kind a b\n1 0 0\n"

-- in form, and refused as tables: 17 propositions, initial 2, a label bit without its proposition, no initial state
abbrev pub no_tables : List (List ℕ)
no_tables =
    sheet "1 1 1 17\n" "1 0\n" "1 0 0\n"
    ∷ sheet "1 1 1 0\n" "2 0\n" "1 0 0\n"
    ∷ sheet "1 1 1 0\n" "1 1\n" "1 0 0\n"
    ∷ sheet "1 1 1 0\n" "0 0\n" "1 0 0\n"
    ∷ []

-- prices 0, 255 and 256, no price, no name of the price, and neither
abbrev pub prices : List (List ℕ)
prices =
    steps "from to price\n0 0 0\n"
    ∷ steps "from to price\n0 0 255\n"
    ∷ steps "from to price\n0 0 256\n"
    ∷ steps "from to price\n0 0\n"
    ∷ steps "from to\n0 0 0\n"
    ∷ steps "from to\n0 0\n"
    ∷ []

pub record ReadingsOfTheForm : Type 0 where
  -- the first is accepted, and the others are refused by 1
  pub form : numbers accepted ++ numbers out_of_form ++ numbers too_large ≡ 0 ∷ replicate 12 1
  -- a price is 0 to 255, and both its name and its value have to be there
  pub price : numbers prices ≡ 0 ∷ 0 ∷ 1 ∷ 1 ∷ 1 ∷ 1 ∷ []
  pub no_table : numbers no_tables ≡ 3 ∷ 4 ∷ 4 ∷ 5 ∷ []
  -- 33 states give 3 when all their lines are there, and 1 when one is missing or too many
  pub many_states : numbers (counted_33 33 ∷ counted_33 32 ∷ counted_33 34 ∷ []) ≡ 3 ∷ 1 ∷ 1 ∷ []
