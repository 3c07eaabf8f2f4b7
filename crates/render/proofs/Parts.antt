-- A rendered sheet as its five parts, one behind the other.
use Prim.Native.Nat.{ℕ, ◌+◌}
use mathlib.Core.Path.{◌≡◌, sym, ap, ◌∙◌}
use lib.ListN.{length, length-append}
use Rattle.table.specs.declared.accepted.Accepted.{Accepted}
use Rattle.table.specs.Table.{records, state_of, step_of, node_of, record_width}
use Rattle.render.specs.Render.{sheet_of}
use mathlib.Core.List.{List, ◌++◌, append_assoc}
use Rattle.sheet.specs.Form.{
  Sheet,
  counts_names,
  states_names,
  steps_names,
  nodes_names,
  counts_line,
  state_line,
  step_line,
  node_line,
  concat_map,
  render,
}

module _ (v : Sheet) where
  -- a block of records, and what is left of a sheet from a block on
  abbrev pub states_block : List ℕ
  states_block = states_names ++ concat_map state_line v.states

  abbrev pub steps_block : List ℕ
  steps_block = steps_names ++ concat_map step_line v.steps

  abbrev pub nodes_block : List ℕ
  nodes_block = nodes_names ++ concat_map node_line v.nodes

  abbrev pub from_steps : List ℕ
  from_steps = steps_block ++ nodes_block

  abbrev pub from_states : List ℕ
  from_states = states_block ++ from_steps

  abbrev pub from_counts : List ℕ
  from_counts = counts_line v.counts ++ from_states

  regroup : (a b c d e : List ℕ) → (a ++ b) ++ c ++ d ++ e ≡ a ++ (b ++ (c ++ (d ++ e)))
  regroup a b c d e = simp append_assoc

  -- the whole
  pub render_parts : render v ≡ counts_names ++ from_counts
  unfolding render
  render_parts = regroup counts_names (counts_line v.counts) states_block steps_block nodes_block

-- the sheet of an accepted table, of its counts and sections
module _ (t : Accepted) where
  abbrev states_written : List ℕ
  states_written = states_names ++ concat_map state_line (records state_of record_width t.counts.states t.states.now)

  abbrev steps_written : List ℕ
  steps_written = steps_names ++ concat_map step_line (records step_of record_width t.counts.steps t.steps.now)

  abbrev nodes_written : List ℕ
  nodes_written = nodes_names ++ concat_map node_line (records node_of record_width t.counts.nodes t.nodes.now)

  pub accepted_parts : counts_names ++ (counts_line t.counts ++ (states_written ++ (steps_written ++ nodes_written)))
      ≡ render (sheet_of t.bytes.now)
  accepted_parts =
      (λ i. counts_names
      ++ (counts_line (t.counted i)
      ++ ((states_names ++ concat_map state_line (records state_of record_width (t.counted i).states (t.states_are i)))
      ++ ((steps_names ++ concat_map step_line (records step_of record_width (t.counted i).steps (t.steps_are i)))
      ++ (nodes_names ++ concat_map node_line (records node_of record_width (t.counted i).nodes (t.nodes_are i)))))))
      ∙ sym (render_parts (sheet_of t.bytes.now))

  pub accepted-length : length (render (sheet_of t.bytes.now))
      ≡ length counts_names
      + (length (counts_line t.counts) + (length states_written + (length steps_written + length nodes_written)))
  accepted-length =
      sym (ap length accepted_parts)
      ∙ length-append counts_names (counts_line t.counts ++ (states_written ++ (steps_written ++ nodes_written)))
      ∙ ap (λ (n : ℕ). length counts_names + n)
      (length-append (counts_line t.counts) (states_written ++ (steps_written ++ nodes_written))
      ∙ ap (λ (n : ℕ). length (counts_line t.counts) + n) (length-append states_written (steps_written ++ nodes_written)
      ∙ ap (λ (n : ℕ). length states_written + n) (length-append steps_written nodes_written)))
