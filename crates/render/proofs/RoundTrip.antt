-- Reading what was written gives the table again, and writing what was read gives the text again.
use Prim.Native.Nat.{ℕ, zero, suc, ◌+◌, ◌*◌, ◌/◌, ◌%◌, ◌≤◌}
use mathlib.Core.Path.{◌≡◌, refl, sym, ap, ap₂, ◌∙◌}
use mathlib.Core.List.{List, [], ◌∷◌, ◌++◌, append_assoc}
use native.Mathlib.Nat.{mul-zero, mul-suc}
use native.Mathlib.Omega.{arith}
use lib.ListN.{length, take, drop, length-drop, take-append-drop}
use lib.Seq.{take_all, length-take-le, drop-drop}
use Rattle.std.specs.Prelude.{Some, Ok}
use Rattle.table.specs.Table.{
  records,
  counts_of,
  packed_length,
  state_of,
  step_of,
  node_of,
  states_part,
  steps_part,
  nodes_part,
  state_width,
  step_width,
  node_width,
  header_width,
}
use Rattle.table.specs.Accept.{table_verdict}
use Rattle.table.specs.Facts.{IsTable}
use Rattle.table.proofs.Refused.{is_table}
use Rattle.table.proofs.Bytes.{Bytes, bytes_drop, bytes_part}
use Rattle.sheet.specs.Form.{Sheet, InRange, concat_map, render}
use Rattle.sheet.specs.Parse.{parse}
use Rattle.reader.specs.Read.{pack_counts, pack_state, pack_step, pack_node, pack, packed, read_answer, read_buffer}
use Rattle.reader.specs.Exact.{SheetOf}
use Rattle.sheet.proofs.Whole.{parse-render}
use Rattle.reader.proofs.PackedSheet.{counts_pack, table_pack}
use Rattle.reader.proofs.ReadGives.{accepted_read, answered}
use Rattle.render.specs.Render.{sheet_of}
use Rattle.render.specs.RoundTrip.{RoundTrip}
use Rattle.render.proofs.Ranges.{sheet_range}

-- records read from bytes are packed into the same bytes
module _ {A : Type 0} (f : A → List ℕ) (read : List ℕ → A) (width : ℕ)
    (same : (l : List ℕ) → width ≤ length l → Bytes l → f (read l) ≡ take width l) where
  bytes_again : (count : ℕ) (l : List ℕ) → length l ≡ width * count → Bytes l
      → concat_map f (records read width count l) ≡ l
  unfolding concat_map records
  bytes_again zero l h b = take_all 0 l (omega (arith, mul-zero width))
  bytes_again (suc count) l h b =
      let m = mul-suc width count in
      ap₂ ◌++◌ (same l (omega arith) b)
      (bytes_again count (drop width l) (omega (arith, length-drop width l)) (bytes_drop width l b))
      ∙ take-append-drop width l

state_again : (l : List ℕ) → 3 ≤ length l → Bytes l → pack_state (state_of l) ≡ take 3 l
state_again [] h b = absurd (omega arith)
state_again (x ∷ []) h b = absurd (omega arith)
state_again (x ∷ (y ∷ [])) h b = absurd (omega arith)
state_again (x ∷ (y ∷ (z ∷ l))) h b =
    let low : (y + 256 * z) % 256 ≡ y = omega (arith, b 1) in
    let high : (y + 256 * z) / 256 ≡ z = omega (arith, b 1) in
    ap₂ (λ (p q : ℕ). x ∷ p ∷ q ∷ []) low high

step_again : (l : List ℕ) → 3 ≤ length l → Bytes l → pack_step (step_of l) ≡ take 3 l
step_again [] h b = absurd (omega arith)
step_again (x ∷ []) h b = absurd (omega arith)
step_again (x ∷ (y ∷ [])) h b = absurd (omega arith)
step_again (x ∷ (y ∷ (z ∷ l))) h b = refl

node_again : (l : List ℕ) → 3 ≤ length l → Bytes l → pack_node (node_of l) ≡ take 3 l
node_again [] h b = absurd (omega arith)
node_again (x ∷ []) h b = absurd (omega arith)
node_again (x ∷ (y ∷ [])) h b = absurd (omega arith)
node_again (x ∷ (y ∷ (z ∷ l))) h b = refl

counts_again : (l : List ℕ) → 4 ≤ length l → pack_counts (counts_of l) ≡ take 4 l
counts_again [] h = absurd (omega arith)
counts_again (x ∷ []) h = absurd (omega arith)
counts_again (x ∷ (y ∷ [])) h = absurd (omega arith)
counts_again (x ∷ (y ∷ (z ∷ []))) h = absurd (omega arith)
counts_again (x ∷ (y ∷ (z ∷ (w ∷ l)))) h = refl

-- the sheet of packed bytes is packed into these bytes
module _ (l : List ℕ) (b : Bytes l) (size : length l ≡ packed_length (counts_of l)) where
  abbrev n : ℕ
  n = (counts_of l).states

  abbrev e : ℕ
  e = (counts_of l).steps

  abbrev f : ℕ
  f = (counts_of l).nodes

  part_length : (k start : ℕ) → start + k ≤ length l → length (take k (drop start l)) ≡ k
  part_length k start h = length-take-le k (drop start l) (omega (arith, length-drop start l))

  sections : take 4 l ++ states_part l ++ steps_part l ++ nodes_part l ≡ l
  sections =
      let rest : nodes_part l ≡ drop (header_width + state_width * n + step_width * e) l =
      take_all (node_width * f) (drop (header_width + state_width * n + step_width * e) l)
      (omega (arith, length-drop (header_width + state_width * n + step_width * e) l)) in
      let steps : steps_part l ++ drop (header_width + state_width * n + step_width * e) l
      ≡ drop (header_width + state_width * n) l =
      ap (λ (x : List ℕ). steps_part l ++ x) (sym (drop-drop (step_width * e) (header_width + state_width * n) l))
      ∙ take-append-drop (step_width * e) (drop (header_width + state_width * n) l) in
      let states : states_part l ++ drop (header_width + state_width * n) l ≡ drop header_width l =
      ap (λ (x : List ℕ). states_part l ++ x) (sym (drop-drop (state_width * n) header_width l))
      ∙ take-append-drop (state_width * n) (drop header_width l) in
      regroup (take 4 l) (states_part l) (steps_part l) (nodes_part l)
      ∙ ap (λ (x : List ℕ). take 4 l ++ (states_part l ++ (steps_part l ++ x))) rest
      ∙ ap (λ (x : List ℕ). take 4 l ++ (states_part l ++ x)) steps
      ∙ ap (λ (x : List ℕ). take 4 l ++ x) states
      ∙ take-append-drop header_width l
    where
      regroup : (p q r s : List ℕ) → p ++ q ++ r ++ s ≡ p ++ (q ++ (r ++ s))
      regroup p q r s = simp append_assoc

  pub pack-sheet : pack (sheet_of l) ≡ l
  unfolding pack
  pack-sheet =
      let s = bytes_again pack_state state_of state_width state_again n (states_part l)
      (part_length (state_width * n) header_width (omega arith)) (bytes_part (state_width * n) header_width l b) in
      let x = bytes_again pack_step step_of step_width step_again e (steps_part l)
      (part_length (step_width * e) (header_width + state_width * n) (omega arith))
      (bytes_part (step_width * e) (header_width + state_width * n) l b) in
      let z = bytes_again pack_node node_of node_width node_again f (nodes_part l)
      (part_length (node_width * f) (header_width + state_width * n + step_width * e) (omega arith))
      (bytes_part (node_width * f) (header_width + state_width * n + step_width * e) l b) in
      (λ i. counts_again l (omega arith) i ++ s i ++ x i ++ z i) ∙ sections

-- reading the sheet of an accepted table: its verdict is test 10 alone, and what is packed is the table
module _ (l : List ℕ) (b : Bytes l) (is : IsTable l) where
  accepted : table_verdict l ≡ Ok tt
  accepted = (is_table l).1 is

  same : pack (sheet_of l) ≡ l
  same = pack-sheet l b is.whole

  -- its sheet parses to its values
  pub parse-rendered : parse (render (sheet_of l)) ≡ Some (sheet_of l)
  parse-rendered = parse-render (sheet_of l) (sheet_range l b)

  -- and the table is that of its sheet
  pub sheet_of_table : SheetOf (render (sheet_of l)) l
  sheet_of_table = (sheet_of l, sheet_range l b, refl, sym same)

  -- into a buffer that is long enough: the length and the table come back
  pub read_rendered : (out : List ℕ) → length l ≤ length out
      → (read_answer (render (sheet_of l)) out ≡ Ok (length l))
      × (read_buffer (render (sheet_of l)) out ≡ l ++ drop (length l) out)
  read_rendered out h =
      let v = accepted_read (render (sheet_of l)) (length out) (sheet_of l) parse-rendered
      (ap table_verdict same ∙ accepted) (omega (arith, ap length same)) in
      let o = answered (render (sheet_of l)) out (Ok tt) v l (ap packed parse-rendered ∙ same) in
      (sym o.0, sym o.1)

-- the sheet of a packed sheet is that sheet, so a text that is read is written back
pub sheet-pack : (v : Sheet) → InRange v → sheet_of (pack v) ≡ v
sheet-pack v h =
    λ i. record {
      counts = counts_pack v i;
      states = (table_pack v h i).states;
      steps = (table_pack v h i).steps;
      nodes = (table_pack v h i).nodes;
    }

pub written_again : (text table : List ℕ) → SheetOf text table → render (sheet_of table) ≡ text
written_again text table s = ap (λ (t : List ℕ). render (sheet_of t)) s.3 ∙ ap render (sheet-pack s.0 s.1) ∙ sym s.2

pub round_trip : RoundTrip
round_trip = record { read_again = read_rendered; written_again = written_again }
