-- Which tables and lists are accepted, and which of 2 to 9 every other is refused with: Specification, "Refusals".
use Rattle.std.specs.Prelude.{ℕ, suc, ◌^◌, Bool, true, false, not, ◌&&◌, ◌||◌, List, [], ◌∷◌, length, leb, ltb, eqb}
use Rattle.table.specs.declared.counts.Counts.{Counts}
use Rattle.table.specs.declared.shape.Shape.{Shape}
use Rattle.table.specs.declared.shape.Shape.TheVariants.{Constant, Proposition, Unary, Binary, Unknown}
use Rattle.table.specs.declared.record.State.{State}
use Rattle.table.specs.declared.record.Step.{Step}
use Rattle.table.specs.declared.record.Node.{Node}
use Rattle.table.specs.declared.refusal.Refusal.TheVariants.{
  Length,
  Counts as CountsRefused,
  StateRecord,
  NoInitial,
  StepEnd,
  RepeatedStep,
  NodeRecord,
  ListForm,
}
use Rattle.table.specs.Shape.{shape_of}
use Rattle.table.specs.Verdict.{Verdict, require, ◌then◌}
use Rattle.table.specs.Table.{Table, table_of, counts_of, packed_length, header_width, is_initial}

unfoldable pub all {ℓ} : {A : Type ℓ} → (A → Bool) → List A → Bool
all p [] = true
all p (x ∷ xs) = p x && all p xs

unfoldable pub any {ℓ} : {A : Type ℓ} → (A → Bool) → List A → Bool
any p [] = false
any p (x ∷ xs) = p x || any p xs

-- 3: states 1 to 32, steps 0 to 128, nodes 1 to 32, propositions 0 to 16
abbrev pub counts_fit : Counts → Bool
counts_fit c = leb 1 c.states && leb c.states 32 && leb c.steps 128 && leb 1 c.nodes && leb c.nodes 32 && leb c.props 16

-- 4: initial is 0 or 1, and no label bit is at p or above
abbrev pub state_fits : ℕ → State → Bool
state_fits p s = leb s.initial 1 && ltb s.label (2 ^ p)

-- 6: both ends are states
abbrev pub step_fits : ℕ → Step → Bool
step_fits n x = ltb x.from n && ltb x.to n

-- a step from s to t
abbrev pub joins : ℕ → ℕ → Step → Bool
joins s t x = eqb s x.from && eqb t x.to

-- 7: no step is given twice; the price doesn't tell two steps apart
abbrev pub same_step : Step → Step → Bool
same_step x y = joins x.from x.to y

unfoldable pub distinct : List Step → Bool
distinct [] = true
distinct (x ∷ xs) = not (any (same_step x) xs) && distinct xs

-- the fields of node i: a child is a node with a lower number, a proposition is below p, an unused field is 0
abbrev pub fields_fit : Shape → ℕ → ℕ → ℕ → ℕ → Bool
fields_fit Constant p i a b = eqb a 0 && eqb b 0
fields_fit Proposition p i a b = ltb a p && eqb b 0
fields_fit Unary p i a b = ltb a i && eqb b 0
fields_fit Binary p i a b = ltb a i && ltb b i
fields_fit Unknown p i a b = false

abbrev pub node_fits : ℕ → ℕ → Node → Bool
node_fits p i x = fields_fit (shape_of x.kind) p i x.a x.b

-- the nodes from number i on
unfoldable pub nodes_fit : ℕ → ℕ → List Node → Bool
nodes_fit p i [] = true
nodes_fit p i (x ∷ xs) = node_fits p i x && nodes_fit p (suc i) xs

-- 4 to 8, each over the whole table before the next
abbrev pub states_verdict : ℕ → List State → Verdict
states_verdict p xs = require StateRecord (all (state_fits p) xs) then require NoInitial (any is_initial xs)

abbrev pub steps_verdict : ℕ → List Step → Verdict
steps_verdict n xs = require StepEnd (all (step_fits n) xs) then require RepeatedStep (distinct xs)

abbrev pub nodes_verdict : ℕ → List Node → Verdict
nodes_verdict p xs = require NodeRecord (nodes_fit p 0 xs)

abbrev pub records_verdict : Table → Verdict
records_verdict T = states_verdict T.props T.states then steps_verdict (length T.states) T.steps
    then nodes_verdict T.props T.nodes

-- 2 to 8 in their order, of any bytes
unfoldable pub table_verdict : List ℕ → Verdict
table_verdict bytes =
    require Length (leb header_width (length bytes))
    then require CountsRefused (counts_fit (counts_of bytes))
    then require Length (eqb (length bytes) (packed_length (counts_of bytes)))
    then records_verdict (table_of bytes)

-- 9: a list is e bytes of 0 or 1
unfoldable pub list_verdict : ℕ → List ℕ → Verdict
list_verdict e list = require ListForm (eqb (length list) e && all (λ b. leb b 1) list)
