-- A sheet into a packed table. Tests 1, 3 to 8 and 10, and what is answered and written.
use Rattle.std.specs.Prelude.{
  ℕ,
  ◌≤◌,
  ◌/◌,
  ◌%◌,
  ◌≡◌,
  List,
  [],
  ◌∷◌,
  ◌++◌,
  leb,
  length,
  take,
  drop,
  Option,
  Some,
  None,
  Result,
  Ok,
  Err,
}
use Rattle.table.specs.declared.counts.Counts.{Counts}
use Rattle.table.specs.declared.record.State.{State}
use Rattle.table.specs.declared.record.Step.{Step}
use Rattle.table.specs.declared.record.Node.{Node}
use Rattle.table.specs.declared.refusal.Refusal.{Refusal}
use Rattle.table.specs.declared.accepted.Accepted.{Accepted}
use Rattle.table.specs.declared.refusal.Refusal.TheVariants.{SheetForm, ShortBuffer}
use Rattle.table.specs.Verdict.{Verdict, require, ◌then◌}
use Rattle.table.specs.Buffer.{on_accepted}
use Rattle.table.specs.Accept.{table_verdict}
use Rattle.sheet.specs.Form.{Sheet, concat_map}
use Rattle.sheet.specs.Parse.{parse}

-- the counts, and a record of each section, as bytes; a label is two bytes, the low one first
abbrev pub pack_counts : Counts → List ℕ
pack_counts c = c.states ∷ c.steps ∷ c.nodes ∷ c.props ∷ []

abbrev pub pack_state : State → List ℕ
pack_state s = s.initial ∷ s.label % 256 ∷ s.label / 256 ∷ []

abbrev pub pack_step : Step → List ℕ
pack_step x = x.from ∷ x.to ∷ x.price ∷ []

abbrev pub pack_node : Node → List ℕ
pack_node x = x.kind ∷ x.a ∷ x.b ∷ []

-- the packed table of a sheet: the counts, then the three sections
unfoldable pub pack : Sheet → List ℕ
pack v =
    pack_counts v.counts
    ++ concat_map pack_state v.states
    ++ concat_map pack_step v.steps
    ++ concat_map pack_node v.nodes

-- test 1, then 3 to 8 on the packed table, then 10 on a lent buffer of `room` bytes
abbrev pub sheet_verdict : Option Sheet → ℕ → Verdict
sheet_verdict None room = Err SheetForm
sheet_verdict (Some v) room = table_verdict (pack v) then require ShortBuffer (leb (length (pack v)) room)

unfoldable pub read_verdict : List ℕ → ℕ → Verdict
read_verdict text room = sheet_verdict (parse text) room

-- the packed table of a text of sheet form
abbrev pub packed : Option Sheet → List ℕ
packed None = []
packed (Some v) = pack v

-- what a call that fills a lent buffer answers: how many bytes, or why it is refused
abbrev pub ReadResult : Type 0
ReadResult = Result ℕ Refusal

-- accepted: the length is answered, and the table stands at the front of the buffer; refused: the buffer stays
abbrev pub read_result : Verdict → List ℕ → ReadResult
read_result (Ok tt) table = Ok (length table)
read_result (Err r) table = Err r

abbrev pub filled : Verdict → List ℕ → List ℕ → List ℕ
filled v table out = on_accepted v (table ++ drop (length table) out) out

-- the outcome of the call for every text and every lent buffer
abbrev pub read_answer : List ℕ → List ℕ → ReadResult
read_answer text out = read_result (read_verdict text (length out)) (packed (parse text))

abbrev pub read_buffer : List ℕ → List ℕ → List ℕ
read_buffer text out = filled (read_verdict text (length out)) (packed (parse text)) out

-- what a text is packed to, at the front of bytes that were zero: so many bytes, at most 580, or why it is not packed
abbrev pub PackedText : List ℕ → List ℕ → Result ℕ Refusal → Type 0
PackedText text bytes (Ok n) = (n ≤ 580) × ((v : Sheet) × (parse text ≡ Some v) × (take n bytes ≡ pack v))
PackedText text bytes (Err r) = read_verdict text 580 ≡ Err r

-- what was read into bytes of the longest table's length, 580, where every accepted table has room: the packed table,
-- or the refusal
abbrev pub ReadInto : List ℕ → Result Accepted Refusal → Type 0
ReadInto text (Ok table) = (read_verdict text 580 ≡ Ok tt) × (table.bytes.now ≡ packed (parse text))
ReadInto text (Err r) = read_verdict text 580 ≡ Err r
