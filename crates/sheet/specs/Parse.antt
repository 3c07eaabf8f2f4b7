-- The sheet as a parser reads it: what stands at the front of a text, and the text behind it.
use Rattle.std.specs.Prelude.{
  ℕ,
  zero,
  suc,
  ◌+◌,
  ◌-◌,
  ◌*◌,
  Bool,
  true,
  false,
  ◌&&◌,
  List,
  [],
  ◌∷◌,
  Option,
  Some,
  None,
  leb,
  ltb,
  eqb,
}
use Rattle.table.specs.declared.counts.Counts.{Counts}
use Rattle.table.specs.declared.record.State.{State}
use Rattle.table.specs.declared.record.Step.{Step}
use Rattle.table.specs.declared.record.Node.{Node}
use Rattle.sheet.specs.Form.{Sheet, space, newline, counts_names, states_names, steps_names, nodes_names}

-- a value and the text behind it, or nothing of the form
pub data Parsed (A : Type 0) : Type 0 where
  got : A → List ℕ → Parsed A
  broken : Parsed A

abbrev pub Parser : Type 0 → Type 0
Parser A = List ℕ → Parsed A

-- one parser after the other
module _ {A B : Type 0} where
  abbrev pub after : Parsed A → (A → Parser B) → Parsed B
  after (got a rest) next = next a rest
  after broken next = broken

  infixl 10 ◌>>=◌
  abbrev pub ◌>>=◌ : Parser A → (A → Parser B) → Parser B
  ◌>>=◌ p next text = after (p text) next

  infixl 10 ◌>>◌
  abbrev pub ◌>>◌ : Parser A → Parser B → Parser B
  ◌>>◌ p next text = after (p text) (λ a. next)

abbrev pub return : {A : Type 0} → A → Parser A
return a text = got a text

-- these bytes and no others
unfoldable pub exactly : List ℕ → Parser (Unit {0})
exactly [] text = got tt text
exactly (b ∷ bs) [] = broken
exactly (b ∷ bs) (x ∷ rest) = elim (eqb x b) [ true ↦ exactly bs rest | false ↦ broken ]

abbrev pub is_digit : ℕ → Bool
is_digit b = leb 48 b && leb b 57

-- the value with one digit more
abbrev pub extended : ℕ → ℕ → ℕ
extended v b = 10 * v + (b - 48)

-- whether the digit b may follow the value v: behind a 0 no digit stands, and a value is at most `max`
abbrev pub extends : ℕ → ℕ → ℕ → Bool
extends max v b = is_digit b && ltb 0 v && leb (extended v b) max

-- the digits behind the value v, up to the byte `stop`
unfoldable pub digits_up_to : ℕ → ℕ → ℕ → Parser ℕ
digits_up_to max stop v [] = broken
digits_up_to max stop v (b ∷ rest) =
    elim (eqb b stop) [
      | true ↦ got v rest
      | false ↦ elim (extends max v b) [ true ↦ digits_up_to max stop (extended v b) rest | false ↦ broken ]
    ]

-- a value of at most `max`, and the byte `stop` behind it
unfoldable pub field : ℕ → ℕ → Parser ℕ
field max stop [] = broken
field max stop (b ∷ rest) = elim (is_digit b) [ true ↦ digits_up_to max stop (b - 48) rest | false ↦ broken ]

-- the lines of values
abbrev pub counts_parser : Parser Counts
counts_parser = do
  states ← field 255 space
  steps ← field 255 space
  nodes ← field 255 space
  props ← field 255 newline
  return (record { states = states; steps = steps; nodes = nodes; props = props })

abbrev pub state_parser : Parser State
state_parser = do
  initial ← field 255 space
  label ← field 65535 newline
  return (record { initial = initial; label = label })

abbrev pub step_parser : Parser Step
step_parser = do
  from ← field 255 space
  to ← field 255 space
  price ← field 255 newline
  return (record { from = from; to = to; price = price })

abbrev pub node_parser : Parser Node
node_parser = do
  kind ← field 255 space
  a ← field 255 space
  b ← field 255 newline
  return (record { kind = kind; a = a; b = b })

-- so many lines
unfoldable pub times : {A : Type 0} → ℕ → Parser A → Parser (List A)
times zero p = return []
times (suc count) p = do
  x ← p
  xs ← times count p
  return (x ∷ xs)

-- a block: its line of names, then so many lines of values
abbrev pub block : {A : Type 0} → List ℕ → ℕ → Parser A → Parser (List A)
block names count p = do
  exactly names
  times count p

-- the four blocks; that of the counts has one line
abbrev pub counts_block : Parser Counts
counts_block = do
  exactly counts_names
  counts_parser

abbrev pub states_block : ℕ → Parser (List State)
states_block count = block states_names count state_parser

abbrev pub steps_block : ℕ → Parser (List Step)
steps_block count = block steps_names count step_parser

abbrev pub nodes_block : ℕ → Parser (List Node)
nodes_block count = block nodes_names count node_parser

-- the four blocks; the counts fix the lines of the others
unfoldable pub sheet_parser : Parser Sheet
sheet_parser = do
  c ← counts_block
  states ← states_block c.states
  steps ← steps_block c.steps
  nodes ← nodes_block c.nodes
  return (record { counts = c; states = states; steps = steps; nodes = nodes })

-- nothing stands behind the last line
abbrev pub whole : Parsed Sheet → Option Sheet
whole (got v []) = Some v
whole (got v (b ∷ rest)) = None
whole broken = None

-- the values of a text of sheet form
unfoldable pub parse : List ℕ → Option Sheet
parse text = whole (sheet_parser text)
