-- The lines of values: each parser takes exactly the lines of values in their ranges.
use Prim.Native.Nat.{ℕ, ◌≤◌}
use mathlib.Core.Path.{◌≡◌, refl, ap}
use mathlib.Core.List.{List, [], ◌++◌, append-nil}
use lib.Dec.{lit<, lit≤}
use Rattle.table.specs.declared.counts.Counts.{Counts}
use Rattle.table.specs.declared.record.State.{State}
use Rattle.table.specs.declared.record.Step.{Step}
use Rattle.table.specs.declared.record.Node.{Node}
use Rattle.sheet.specs.Form.{
  CountsInRange,
  StateInRange,
  StepInRange,
  NodeInRange,
  space,
  newline,
  ended,
  line,
  counts_line,
  state_line,
  step_line,
  node_line,
}
use Rattle.sheet.specs.Parse.{Parser, ◌>>=◌, return, field, counts_parser, state_parser, step_parser, node_parser}
use Rattle.sheet.proofs.Exact.{Exact, exact_as, exact_then, exact_return}
use Rattle.sheet.proofs.FieldExact.{field_exact}

-- a field is exactly a value up to a bound and the byte behind it
Field_exact : ℕ → ℕ → Type 0
Field_exact max stop = Exact (field max stop) (λ v. v ≤ max) (ended stop)

byte_field : Field_exact 255 space
unfolding Field_exact
byte_field = field_exact 255 space (lit≤ tt) (lit< tt)

last_byte_field : Field_exact 255 newline
unfolding Field_exact
last_byte_field = field_exact 255 newline (lit≤ tt) (lit< tt)

last_word_field : Field_exact 65535 newline
unfolding Field_exact
last_word_field = field_exact 65535 newline (lit≤ tt) (lit< tt)

-- a field whose value is a part of what is read, and the parser behind it
module _ {B : Type 0} (max stop : ℕ) (next : ℕ → Parser B) (Q : ℕ → B → Type 0) (g : B → List ℕ) (part : B → ℕ) where
  field_then : Field_exact max stop → ((v : ℕ) → Exact (next v) (Q v) g) → ((v : ℕ) (b : B) → Q v b → v ≡ part b)
      → Exact (field max stop >>= next) (λ b. (part b ≤ max) × Q (part b) b) (λ b. ended stop (part b) ++ g b)
  unfolding Field_exact
  field_then x y same = exact_then (field max stop) next (λ v. v ≤ max) Q (ended stop) g part x y same

-- the last field of a line
module _ {B : Type 0} (max stop : ℕ) (make : ℕ → B) (part : B → ℕ) where
  last_field : Field_exact max stop → ((v : ℕ) (b : B) → make v ≡ b → v ≡ part b)
      → Exact (field max stop >>= (λ v. return (make v))) (λ b. (part b ≤ max) × (make (part b) ≡ b))
      (λ b. ended stop (part b) ++ [])
  last_field x same =
      field_then max stop (λ v. return (make v)) (λ v b. make v ≡ b) (λ b. []) part x (λ v. exact_return (make v)) same

-- the four lines
pub state_exact : Exact state_parser StateInRange state_line
unfolding line
state_exact =
    exact_as
    (field_then 255 space _ _ _ (λ (s : State). s.initial) byte_field
    (λ i. last_field 65535 newline (λ l. record { initial = i; label = l }) (λ (s : State). s.label) last_word_field
    (λ l s e. ap (λ (t : State). t.label) e))
    (λ i s q. ap (λ (t : State). t.initial) q.1))
    (λ s h. record { initial = h.0; label = h.1.0 })
    (λ s h. (h.initial, (h.label, refl)))
    (λ s. simp append-nil)

pub step_exact : Exact step_parser StepInRange step_line
unfolding line
step_exact =
    exact_as
    (field_then 255 space _ _ _ (λ (x : Step). x.from) byte_field
    (λ i. field_then 255 space _ _ _ (λ (x : Step). x.to) byte_field
    (λ j. last_field 255 newline (λ p. record { from = i; to = j; price = p }) (λ (x : Step). x.price) last_byte_field
    (λ p x e. ap (λ (y : Step). y.price) e))
    (λ j x q. ap (λ (y : Step). y.to) q.1))
    (λ i x q. ap (λ (y : Step). y.from) q.1.1))
    (λ x h. record { from = h.0; to = h.1.0; price = h.1.1.0 })
    (λ x h. (h.from, (h.to, (h.price, refl))))
    (λ x. simp append-nil)

pub node_exact : Exact node_parser NodeInRange node_line
unfolding line
node_exact =
    exact_as
    (field_then 255 space _ _ _ (λ (x : Node). x.kind) byte_field
    (λ k. field_then 255 space _ _ _ (λ (x : Node). x.a) byte_field
    (λ a. last_field 255 newline (λ b. record { kind = k; a = a; b = b }) (λ (x : Node). x.b) last_byte_field
    (λ b x e. ap (λ (y : Node). y.b) e))
    (λ a x q. ap (λ (y : Node). y.a) q.1))
    (λ k x q. ap (λ (y : Node). y.kind) q.1.1))
    (λ x h. record { kind = h.0; a = h.1.0; b = h.1.1.0 })
    (λ x h. (h.kind, (h.a, (h.b, refl))))
    (λ x. simp append-nil)

pub counts_exact : Exact counts_parser CountsInRange counts_line
unfolding line
counts_exact =
    exact_as
    (field_then 255 space _ _ _ (λ (c : Counts). c.states) byte_field
    (λ n. field_then 255 space _ _ _ (λ (c : Counts). c.steps) byte_field
    (λ e. field_then 255 space _ _ _ (λ (c : Counts). c.nodes) byte_field
    (λ f. last_field 255 newline (λ p. record { states = n; steps = e; nodes = f; props = p })
    (λ (c : Counts). c.props) last_byte_field (λ p c q. ap (λ (d : Counts). d.props) q))
    (λ f c q. ap (λ (d : Counts). d.nodes) q.1))
    (λ e c q. ap (λ (d : Counts). d.steps) q.1.1))
    (λ n c q. ap (λ (d : Counts). d.states) q.1.1.1))
    (λ c h. record { states = h.0; steps = h.1.0; nodes = h.1.1.0; props = h.1.1.1.0 })
    (λ c h. (h.states, (h.steps, (h.nodes, (h.props, refl)))))
    (λ c. simp append-nil)
