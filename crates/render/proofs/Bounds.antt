-- How long the sheet of an accepted table can be.
use Prim.Native.Nat.{ℕ, ◌+◌, ◌*◌, ◌/◌, ◌≤◌, ◌<◌}
use mathlib.Core.Path.{◌≡◌, ap}
use mathlib.Core.List.{List, [], ◌∷◌, ◌++◌}
use native.Mathlib.Nat.{mul-suc, le_of_eq}
use native.Mathlib.Decide.{dec_lt}
use native.Mathlib.Omega.{arith}
use lib.ListN.{length, length-append}
use Rattle.table.specs.declared.counts.Counts.{Counts}
use Rattle.table.specs.declared.record.State.{State}
use Rattle.table.specs.declared.record.Step.{Step}
use Rattle.table.specs.declared.record.Node.{Node}
use Rattle.sheet.specs.Form.{
  Sheet,
  InRange,
  CountsInRange,
  StateInRange,
  StepInRange,
  NodeInRange,
  Every,
  decimal,
  ended,
  line,
  counts_line,
  state_line,
  step_line,
  node_line,
  concat_map,
  render,
}
use Rattle.render.proofs.Number.{low_length, high_length}
use Rattle.render.proofs.Parts.{nodes_block, from_steps, from_states, render_parts}

-- a number ten times as large has at most one digit more
pub more_digits : (limit n : ℕ) → ((w : ℕ) → w < limit → length (decimal w) ≤ n) → (v : ℕ) → v < 10 * limit
    → length (decimal v) ≤ n + 1
more_digits limit n few v h =
    elim (dec_lt v 10) [
      | yes low ↦ omega (arith, low_length v low)
      | no high ↦ (let ten : 10 ≤ v = omega (arith, high) in
          omega (arith, high_length v ten, few (v / 10) (omega arith)))
    ]

-- at most three digits, and at most five
byte_digits : (v : ℕ) → v ≤ 255 → length (decimal v) ≤ 3
byte_digits v h = more_digits 100 2 (more_digits 10 1 (λ w k. le_of_eq (low_length w k))) v (omega arith)

word_digits : (v : ℕ) → v ≤ 65535 → length (decimal v) ≤ 5
word_digits v h =
    more_digits 10000 4 (more_digits 1000 3 (more_digits 100 2 (more_digits 10 1 (λ w k. le_of_eq (low_length w k))))) v
    (omega arith)

pub ended-length : (stop v : ℕ) → length (ended stop v) ≡ length (decimal v) + 1
ended-length stop v = length-append (decimal v) (stop ∷ [])

state_line-length : (s : State) → StateInRange s → length (state_line s) ≤ 10
unfolding line
state_line-length s h =
    omega (
      arith,
      length-append (ended 32 s.initial) (ended 10 s.label),
      ended-length 32 s.initial,
      ended-length 10 s.label,
      byte_digits s.initial h.initial,
      word_digits s.label h.label,
    )

-- a line of three bytes
triple_length : (a b c : ℕ) → a ≤ 255 → b ≤ 255 → c ≤ 255 → length (line (a ∷ b ∷ c ∷ [])) ≤ 12
unfolding line
triple_length a b c ha hb hc =
    omega (
      arith,
      length-append (ended 32 a) (ended 32 b ++ ended 10 c),
      length-append (ended 32 b) (ended 10 c),
      ended-length 32 a,
      ended-length 32 b,
      ended-length 10 c,
      byte_digits a ha,
      byte_digits b hb,
      byte_digits c hc,
    )

step_line-length : (x : Step) → StepInRange x → length (step_line x) ≤ 12
step_line-length x h = triple_length x.from x.to x.price h.from h.to h.price

node_line-length : (x : Node) → NodeInRange x → length (node_line x) ≤ 12
node_line-length x h = triple_length x.kind x.a x.b h.kind h.a h.b

counts_line-length : (c : Counts) → CountsInRange c → length (counts_line c) ≤ 16
unfolding line
counts_line-length c h =
    omega (
      arith,
      length-append (ended 32 c.states) (ended 32 c.steps ++ (ended 32 c.nodes ++ ended 10 c.props)),
      length-append (ended 32 c.steps) (ended 32 c.nodes ++ ended 10 c.props),
      length-append (ended 32 c.nodes) (ended 10 c.props),
      ended-length 32 c.states,
      ended-length 32 c.steps,
      ended-length 32 c.nodes,
      ended-length 10 c.props,
      byte_digits c.states h.states,
      byte_digits c.steps h.steps,
      byte_digits c.nodes h.nodes,
      byte_digits c.props h.props,
    )

lines_length : {A : Type 0} (P : A → Type 0) (f : A → List ℕ) (most : ℕ) → ((x : A) → P x → length (f x) ≤ most)
    → (xs : List A) → Every P xs → length (concat_map f xs) ≤ most * length xs
unfolding concat_map
lines_length P f most each [] h = omega arith
lines_length P f most each (x ∷ xs) h =
    omega (
      arith,
      length-append (f x) (concat_map f xs),
      each x h.0,
      lines_length P f most each xs h.1,
      mul-suc most (length xs),
    )

-- at most 2318 bytes
pub sheet-length : (v : Sheet) → InRange v → v.counts.states ≤ 32 → v.counts.steps ≤ 128 → v.counts.nodes ≤ 32
    → length (render v) ≤ 2318
sheet-length v h n e f =
    let c = counts_line-length v.counts h.counts in
    let s = lines_length StateInRange state_line 10 state_line-length v.states h.states in
    let x = lines_length StepInRange step_line 12 step_line-length v.steps h.steps in
    let z = lines_length NodeInRange node_line 12 node_line-length v.nodes h.nodes in
    let ns = h.states_count in
    let nx = h.steps_count in
    let nz = h.nodes_count in
    omega (
      arith,
      ap length (render_parts v),
      length-append (counts_line v.counts) (from_states v),
      length-append (concat_map state_line v.states) (from_steps v),
      length-append (concat_map step_line v.steps) (nodes_block v),
    )
