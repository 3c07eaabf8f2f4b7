-- What is printed, in the words of sheets, tables and repairs: one of four answers, and what each of them says of the
-- text.
use Rattle.std.specs.Prelude.{ℕ, ◌≤◌, ◌<◌, ◌≡◌, ◌↔◌, ◌⊎◌, List, ◌++◌, length}
use Rattle.table.specs.declared.refusal.Refusal.{Refusal}
use Rattle.table.specs.declared.refusal.Refusal.TheVariants.{SheetForm, Length, ShortBuffer}
use Rattle.table.specs.Table.{table_of}
use Rattle.table.specs.Facts.{IsTable}
use Rattle.table.specs.Refused.{TableRefused}
use Rattle.ctl.specs.Kept.{Repair}
use Rattle.circuit.specs.Variables.{variable_formula}
use Rattle.search.specs.TableSearch.{search_free}
use Rattle.search.specs.Right.{choices}
use Rattle.sheet.specs.Form.{IsSheet, ascii}
use Rattle.reader.specs.Exact.{SheetOf}
use Rattle.repair.specs.Right.{FoundList}
use Rattle.report.specs.Texts.{counted, refused, found_text, cap}

-- the text is a sheet of at most 4,096 bytes, and the bytes are its packed table, with a circuit of at most 10,000
-- variables
pub record FitTable (text table : List ℕ) : Type 0 where
  pub short : length text ≤ 4096
  pub sheet : SheetOf text table
  pub is_table : IsTable table
  pub few_variables : variable_formula (table_of table) ≤ 10000

-- For which text each refusal is printed: it is too long or no sheet; its table's circuit has too many variables; or
-- its table fails a test, and passes all that are tested before. A packed sheet is as long as its counts say, so 2 is
-- for no text.
abbrev pub FitRefused : List ℕ → Refusal → Type 0
FitRefused text SheetForm = (4096 < length text) ⊎ (¬ IsSheet text)
FitRefused text Length = ⊥
FitRefused text ShortBuffer =
    (length text ≤ 4096)
    × ((table : List ℕ) × SheetOf text table × IsTable table × (10000 < variable_formula (table_of table)))
FitRefused text r = (length text ≤ 4096) × ((table : List ℕ) × SheetOf text table × TableRefused table r)

-- none: no list is a repair. The choices that are printed are those that the search makes, and no more than allowed.
pub record SaysNone (most : ℕ) (table printed : List ℕ) : Type 0 where
  pub no_repair : (list : List ℕ) → ¬ Repair (table_of table) list
  pub within : choices (search_free (table_of table)) ≤ most
  pub text : printed ≡ counted (ascii "none ") (choices (search_free (table_of table))) 0

-- spent: the search needs more choices than are allowed, and what is allowed is printed. Whether a list is a repair is
-- not said.
pub record SaysSpent (most : ℕ) (table printed : List ℕ) : Type 0 where
  pub over : most < choices (search_free (table_of table))
  pub text : printed ≡ counted (ascii "spent ") most 0

-- Found: the list that is printed is the cheapest repair, struck, and the price that of the repair before striking.
pub record SaysFound (most : ℕ) (table printed : List ℕ) : Type 0 where
  pub price : ℕ
  pub list : List ℕ
  pub found : FoundList (table_of table) price list
  pub within : choices (search_free (table_of table)) ≤ most
  pub text : printed ≡ found_text table price (choices (search_free (table_of table))) list

-- what is printed of a table that is searched with at most so many choices
abbrev pub TableSays : ℕ → List ℕ → List ℕ → Type 0
TableSays most table printed =
    SaysNone most table printed ⊎ (SaysSpent most table printed ⊎ SaysFound most table printed)

-- what is printed of a text: a refusal, or one of those three
abbrev pub FitSays : List ℕ → List ℕ → Type 0
FitSays text printed =
    ((r : Refusal) × FitRefused text r × (printed ≡ refused r))
    ⊎ ((table : List ℕ) × FitTable text table × TableSays cap table printed)

-- the word none is printed, whatever stands behind it, only of a text whose table no list repairs
abbrev pub NoneSays : List ℕ → List ℕ → Type 0
NoneSays text printed = (rest : List ℕ) → printed ≡ ascii "answer choices price\n" ++ (ascii "none " ++ rest)
    → (table : List ℕ) × FitTable text table × ((list : List ℕ) → ¬ Repair (table_of table) list)

-- a list and a price are printed only where that list is the cheapest repair of the text's table, struck, of that price
abbrev pub ListSays : List ℕ → List ℕ → Type 0
ListSays text printed =
    (table : List ℕ) → FitTable text table → (price choices : ℕ) (list : List ℕ)
    → length list ≡ length (table_of table).steps → printed ≡ found_text table price choices list
    → FoundList (table_of table) price list

-- each refusal is printed exactly for the texts that it names
abbrev pub RefusedSays : List ℕ → List ℕ → Type 0
RefusedSays text printed = (r : Refusal) → (printed ≡ refused r) ↔ FitRefused text r
