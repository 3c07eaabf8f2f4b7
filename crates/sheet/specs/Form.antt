-- Which bytes are a sheet: Specification, "Sheets". It is the rendering of values that are each in their range.
use Rattle.std.specs.Prelude.{ℕ, zero, suc, ◌+◌, ◌/◌, ◌%◌, ◌≤◌, ◌≡◌, true, false, List, [], ◌∷◌, ◌++◌, ltb, length}
use Prim.Native.Char.{code}
use Prim.Native.String.{String, [] as empty, ◌∷◌ as ◌followed-by◌}
use Rattle.table.specs.declared.counts.Counts.{Counts}
use Rattle.table.specs.declared.record.State.{State}
use Rattle.table.specs.declared.record.Step.{Step}
use Rattle.table.specs.declared.record.Node.{Node}

-- the values of a sheet: the four counts, then the states, the steps and the nodes
pub record Sheet : Type 0 where
  pub counts : Counts
  pub states : List State
  pub steps : List Step
  pub nodes : List Node

-- values are 0 to 255, and a label is 0 to 65535
pub record CountsInRange (c : Counts) : Type 0 where
  pub states : c.states ≤ 255
  pub steps : c.steps ≤ 255
  pub nodes : c.nodes ≤ 255
  pub props : c.props ≤ 255

pub record StateInRange (s : State) : Type 0 where
  pub initial : s.initial ≤ 255
  pub label : s.label ≤ 65535

pub record StepInRange (x : Step) : Type 0 where
  pub from : x.from ≤ 255
  pub to : x.to ≤ 255
  pub price : x.price ≤ 255

pub record NodeInRange (x : Node) : Type 0 where
  pub kind : x.kind ≤ 255
  pub a : x.a ≤ 255
  pub b : x.b ≤ 255

-- a property of every element
abbrev pub Every : {A : Type 0} → (A → Type 0) → List A → Type 0
Every P [] = Unit {0}
Every P (x ∷ xs) = P x × Every P xs

-- the counts fix how many states, steps and nodes there are
pub record InRange (v : Sheet) : Type 0 where
  pub counts : CountsInRange v.counts
  pub states_count : length v.states ≡ v.counts.states
  pub steps_count : length v.steps ≡ v.counts.steps
  pub nodes_count : length v.nodes ≡ v.counts.nodes
  pub states : Every StateInRange v.states
  pub steps : Every StepInRange v.steps
  pub nodes : Every NodeInRange v.nodes

-- the bytes of a text in ASCII
abbrev pub ascii : String → List ℕ
ascii empty = []
ascii (c followed-by rest) = code c ∷ ascii rest

abbrev pub space : ℕ
space = 32

abbrev pub newline : ℕ
newline = 10

-- the four lines of names
abbrev pub counts_names : List ℕ
counts_names = ascii "states edges nodes props\n"

abbrev pub states_names : List ℕ
states_names = ascii "initial label\n"

abbrev pub steps_names : List ℕ
steps_names = ascii "from to price\n"

abbrev pub nodes_names : List ℕ
nodes_names = ascii "kind a b\n"

abbrev pub digit : ℕ → ℕ
digit d = 48 + d

-- a number in decimal, no leading zero: below ten one digit, else the digits of its tenth and its last digit. `room`
-- only bounds the recursion: a number n has at most suc n digits
unfoldable pub digits : ℕ → ℕ → List ℕ
digits zero n = []
digits (suc room) n = elim (ltb n 10) [ true ↦ digit n ∷ [] | false ↦ digits room (n / 10) ++ (digit (n % 10) ∷ []) ]

unfoldable pub decimal : ℕ → List ℕ
decimal n = digits (suc n) n

-- a value, and the byte behind it
abbrev pub ended : ℕ → ℕ → List ℕ
ended stop x = decimal x ++ (stop ∷ [])

-- a line of values: one space between, byte 10 after
unfoldable pub line : List ℕ → List ℕ
line [] = newline ∷ []
line (x ∷ []) = ended newline x
line (x ∷ (y ∷ ys)) = ended space x ++ line (y ∷ ys)

-- the values of each line, in the order of the names
abbrev pub counts_line : Counts → List ℕ
counts_line c = line (c.states ∷ c.steps ∷ c.nodes ∷ c.props ∷ [])

abbrev pub state_line : State → List ℕ
state_line s = line (s.initial ∷ s.label ∷ [])

abbrev pub step_line : Step → List ℕ
step_line x = line (x.from ∷ x.to ∷ x.price ∷ [])

abbrev pub node_line : Node → List ℕ
node_line x = line (x.kind ∷ x.a ∷ x.b ∷ [])

-- the bytes of each element, one behind the other
unfoldable pub concat_map : {A : Type 0} → (A → List ℕ) → List A → List ℕ
concat_map f [] = []
concat_map f (x ∷ xs) = f x ++ concat_map f xs

-- four blocks, each a line of names, then lines of values
unfoldable pub render : Sheet → List ℕ
render v =
    (counts_names ++ counts_line v.counts)
    ++ (states_names ++ concat_map state_line v.states)
    ++ (steps_names ++ concat_map step_line v.steps)
    ++ (nodes_names ++ concat_map node_line v.nodes)

-- a text is of sheet form when it is the rendering of values in their ranges
abbrev pub IsSheet : List ℕ → Type 0
IsSheet text = (v : Sheet) × InRange v × (text ≡ render v)
