-- The packed table of a sheet: its length, its counts and its records.
use Prim.Native.Nat.{ℕ, suc, ◌+◌, ◌*◌, ◌/◌, ◌%◌}
use mathlib.Core.Path.{◌≡◌, refl, sym, ap, ap₂, ◌∙◌}
use mathlib.Core.List.{List, [], ◌∷◌, ◌++◌, append_assoc, append-nil}
use native.Mathlib.Nat.{mul-suc, mul-zero}
use native.Mathlib.Omega.{arith}
use lib.ListN.{length, take, drop, length-append}
use lib.Seq.{sets, take_at, drop_at, take-length}
use Rattle.table.specs.declared.record.State.{State}
use Rattle.table.specs.Table.{
  table_of,
  counts_of,
  packed_length,
  records,
  state_of,
  step_of,
  node_of,
  states_part,
  steps_part,
  nodes_part,
  header_width,
  state_width,
  step_width,
  node_width,
}
use Rattle.sheet.specs.Form.{Sheet, InRange, concat_map}
use Rattle.reader.proofs.Stores.{sets_append}
use Rattle.reader.specs.Read.{pack_counts, pack_state, pack_step, pack_node, pack}

-- records of one width, packed one behind the other: how long they are, and that they are read again
module _ {A : Type 0} (f : A → List ℕ) (width : ℕ) (size : (x : A) → length (f x) ≡ width) where
  pub bytes_length : (xs : List A) → length (concat_map f xs) ≡ width * length xs
  unfolding concat_map
  bytes_length [] = sym (mul-zero width)
  bytes_length (x ∷ xs) =
      length-append (f x) (concat_map f xs)
      ∙ ap₂ (λ (a b : ℕ). a + b) (size x) (bytes_length xs)
      ∙ (let m : width * suc (length xs) ≡ width * length xs + width = mul-suc width (length xs) in omega arith)

  pub records_bytes : (read : List ℕ → A) → ((x : A) (rest : List ℕ) → read (f x ++ rest) ≡ x)
      → (xs : List A) (rest : List ℕ) → records read width (length xs) (concat_map f xs ++ rest) ≡ xs
  unfolding records concat_map
  records_bytes read same [] rest = refl
  records_bytes read same (x ∷ xs) rest =
      ap (records read width (suc (length xs))) (append_assoc (f x) (concat_map f xs) rest)
      ∙ ap₂ ◌∷◌ (same x (concat_map f xs ++ rest))
      (ap (records read width (length xs)) (drop_at (f x) (concat_map f xs ++ rest) width (size x))
      ∙ records_bytes read same xs rest)

-- the records read from packed records, so many as there are
records_of : {A : Type 0} (read : List ℕ → A) (f : A → List ℕ) (width : ℕ) → ((x : A) → length (f x) ≡ width)
    → ((x : A) (rest : List ℕ) → read (f x ++ rest) ≡ x)
    → (count : ℕ) (part : List ℕ) (xs : List A) → length xs ≡ count → part ≡ concat_map f xs
    → records read width count part ≡ xs
records_of {A} read f width size same count part xs many e =
    ap (records read width count) (e ∙ sym (append-nil (concat_map f xs)))
    ∙ ap (λ (k : ℕ). records read width k (concat_map f xs ++ [])) (sym many)
    ∙ records_bytes f width size read same xs []

state_same : (s : State) (rest : List ℕ) → state_of (pack_state s ++ rest) ≡ s
state_same s rest =
    let e : s.label % 256 + 256 * (s.label / 256) ≡ s.label = omega arith in
    λ i. record { initial = s.initial; label = e i }

-- the counts are the first four bytes
pub counts_pack : (v : Sheet) → counts_of (pack v) ≡ v.counts
unfolding pack
counts_pack v = refl

module _ (v : Sheet) (h : InRange v) where
  abbrev states_bytes : List ℕ
  states_bytes = concat_map pack_state v.states

  abbrev steps_bytes : List ℕ
  steps_bytes = concat_map pack_step v.steps

  abbrev nodes_bytes : List ℕ
  nodes_bytes = concat_map pack_node v.nodes

  pub states-length : length states_bytes ≡ state_width * v.counts.states
  states-length = bytes_length pack_state 3 (λ s. refl) v.states ∙ ap (λ (n : ℕ). 3 * n) h.states_count

  pub steps_length : length steps_bytes ≡ step_width * v.counts.steps
  steps_length = bytes_length pack_step 3 (λ s. refl) v.steps ∙ ap (λ (n : ℕ). 3 * n) h.steps_count

  pub nodes_length : length nodes_bytes ≡ node_width * v.counts.nodes
  nodes_length = bytes_length pack_node 3 (λ s. refl) v.nodes ∙ ap (λ (n : ℕ). 3 * n) h.nodes_count

  front_length : length (pack_counts v.counts ++ states_bytes) ≡ header_width + state_width * v.counts.states
  front_length = omega (arith, states-length)

  middle_length : length (pack_counts v.counts ++ states_bytes ++ steps_bytes)
      ≡ header_width + state_width * v.counts.states + step_width * v.counts.steps
  middle_length =
      length-append (pack_counts v.counts ++ states_bytes) steps_bytes
      ∙ ap₂ (λ (a b : ℕ). a + b) front_length steps_length

  -- a packed sheet is as long as its counts say
  pub pack-length : length (pack v) ≡ packed_length v.counts
  unfolding pack
  pack-length =
      length-append (pack_counts v.counts ++ states_bytes ++ steps_bytes) nodes_bytes
      ∙ ap₂ (λ (a b : ℕ). a + b) middle_length nodes_length

  states-packed : states_part (pack v) ≡ states_bytes
  unfolding pack
  states-packed =
      ap (take (state_width * v.counts.states)) (append_assoc states_bytes steps_bytes nodes_bytes)
      ∙ take_at states_bytes (steps_bytes ++ nodes_bytes) (state_width * v.counts.states) states-length

  steps_packed : steps_part (pack v) ≡ steps_bytes
  unfolding pack
  steps_packed =
      ap (λ (l : List ℕ). take (step_width * v.counts.steps) (drop (header_width + state_width * v.counts.states) l))
      (append_assoc (pack_counts v.counts ++ states_bytes) steps_bytes nodes_bytes)
      ∙ ap (take (step_width * v.counts.steps))
      (drop_at (pack_counts v.counts ++ states_bytes) (steps_bytes ++ nodes_bytes)
      (header_width + state_width * v.counts.states) front_length)
      ∙ take_at steps_bytes nodes_bytes (step_width * v.counts.steps) steps_length

  nodes_packed : nodes_part (pack v) ≡ nodes_bytes
  unfolding pack
  nodes_packed =
      ap (take (node_width * v.counts.nodes))
      (drop_at (pack_counts v.counts ++ states_bytes ++ steps_bytes) nodes_bytes
      (header_width + state_width * v.counts.states + step_width * v.counts.steps) middle_length)
      ∙ ap (λ (k : ℕ). take k nodes_bytes) (sym nodes_length)
      ∙ take-length nodes_bytes

  -- the four parts stored one behind the other
  pub parts_stored : (l : List ℕ)
      → sets (sets (sets (sets l 0 (pack_counts v.counts)) header_width states_bytes)
      (header_width + state_width * v.counts.states) steps_bytes)
      (header_width + state_width * v.counts.states + step_width * v.counts.steps) nodes_bytes
      ≡ sets l 0 (pack v)
  unfolding pack
  parts_stored l =
      let s : sets (sets l 0 (pack_counts v.counts)) header_width states_bytes
      ≡ sets l 0 (pack_counts v.counts ++ states_bytes) = sym (sets_append (pack_counts v.counts) states_bytes l 0) in
      let x : sets (sets l 0 (pack_counts v.counts ++ states_bytes))
      (header_width + state_width * v.counts.states) steps_bytes
      ≡ sets l 0 (pack_counts v.counts ++ states_bytes ++ steps_bytes) =
      ap (λ (k : ℕ). sets (sets l 0 (pack_counts v.counts ++ states_bytes)) k steps_bytes) (omega (arith, front_length))
      ∙ sym (sets_append (pack_counts v.counts ++ states_bytes) steps_bytes l 0) in
      let z : sets (sets l 0 (pack_counts v.counts ++ states_bytes ++ steps_bytes))
      (header_width + state_width * v.counts.states + step_width * v.counts.steps) nodes_bytes
      ≡ sets l 0 (pack_counts v.counts ++ states_bytes ++ steps_bytes ++ nodes_bytes) =
      ap (λ (k : ℕ). sets (sets l 0 (pack_counts v.counts ++ states_bytes ++ steps_bytes)) k nodes_bytes)
      (omega (arith, middle_length))
      ∙ sym (sets_append (pack_counts v.counts ++ states_bytes ++ steps_bytes) nodes_bytes l 0) in
      ap (λ (a : List ℕ). sets (sets a (header_width + state_width * v.counts.states) steps_bytes)
      (header_width + state_width * v.counts.states + step_width * v.counts.steps) nodes_bytes) s
      ∙ ap (λ (a : List ℕ). sets a (header_width + state_width * v.counts.states + step_width * v.counts.steps)
      nodes_bytes) x
      ∙ z

  -- the records of the packed table are the sheet's
  pub table_pack : table_of (pack v)
      ≡ record { states = v.states; steps = v.steps; nodes = v.nodes; props = v.counts.props }
  unfolding pack
  table_pack i =
      record {
        states = records_of state_of pack_state 3 (λ s. refl) state_same v.counts.states
            (states_part (pack v)) v.states h.states_count states-packed i;
        steps = records_of step_of pack_step 3 (λ s. refl) (λ s rest. refl) v.counts.steps
            (steps_part (pack v)) v.steps h.steps_count steps_packed i;
        nodes = records_of node_of pack_node 3 (λ s. refl) (λ s rest. refl) v.counts.nodes
            (nodes_part (pack v)) v.nodes h.nodes_count nodes_packed i;
        props = v.counts.props;
      }
