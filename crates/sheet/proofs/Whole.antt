-- The whole sheet: a text parses to values exactly when it is the rendering of these values and they are in their
-- ranges.
use Prim.Native.Nat.{ℕ}
use mathlib.Core.Path.{◌≡◌, refl, sym, ap, ◌∙◌}
use mathlib.Core.Bool.{true, false}
use mathlib.Core.Logic.{◌↔◌}
use mathlib.Core.List.{List, [], ◌∷◌, ◌++◌, append_assoc, append-nil}
use Rattle.std.specs.Prelude.{Some, None}
use native.Mathlib.Omega.{arith}
use borrow.Author.Tests.{eqb-true}
use Rattle.std.proofs.Common.{◌==◌}
use lib.ListN.{length}
use Rattle.sheet.specs.Form.{
  Sheet,
  InRange,
  CountsInRange,
  StateInRange,
  StepInRange,
  NodeInRange,
  Every,
  IsSheet,
  counts_names,
  states_names,
  steps_names,
  nodes_names,
  counts_line,
  state_line,
  step_line,
  node_line,
  concat_map,
  render,
}
use Rattle.sheet.specs.Parse.{
  Parsed,
  Parser,
  got,
  broken,
  ◌>>◌,
  exactly,
  counts_parser,
  state_parser,
  step_parser,
  node_parser,
  times,
  counts_block,
  states_block,
  steps_block,
  nodes_block,
  sheet_parser,
  whole,
  parse,
}
use Rattle.sheet.proofs.Exact.{Exact, exact_as, exact_then, exact_return, exact_bytes, exact_times}
use Rattle.sheet.proofs.Lines.{counts_exact, state_exact, step_exact, node_exact}

-- a block: its names, then what is read behind them
module _ {A : Type 0} (names : List ℕ) (p : Parser A) (P : A → Type 0) (f : A → List ℕ) where
  block_exact : Exact p P f → Exact (exactly names >> p) (λ a. Unit {0} × P a) (λ a. names ++ f a)
  block_exact x =
      exact_then (exactly names) (λ u. p) (λ u. Unit {0}) (λ u. P) (λ u. names) f (λ a. tt) (exact_bytes names) (λ u. x)
      (λ u a h. refl)

module _ {A : Type 0} (names : List ℕ) (p : Parser A) (P : A → Type 0) (f : A → List ℕ) where
  Lines : ℕ → List A → Type 0
  Lines count xs = Unit {0} × ((length xs ≡ count) × Every P xs)

  lines_exact : Exact p P f → (count : ℕ)
      → Exact (exactly names >> times count p) (Lines count) (λ xs. names ++ concat_map f xs)
  unfolding Lines
  lines_exact x count =
      block_exact names (times count p) (λ xs. (length xs ≡ count) × Every P xs) (concat_map f)
      (exact_times p P f x count)

regroup : (a b c d : List ℕ) → a ++ (b ++ (c ++ (d ++ []))) ≡ a ++ b ++ c ++ d
regroup a b c d = simp (append_assoc, append-nil)

pub none_some : (v : Sheet) → None ≡ Some v → ⊥
none_some v e = let z : ◌≡◌ {A = ℕ} 0 1 = cc in omega arith

Parts : Sheet → Type 0
Parts v =
    (Unit {0} × CountsInRange v.counts)
    × (Lines states_names state_parser StateInRange state_line v.counts.states v.states
    × (Lines steps_names step_parser StepInRange step_line v.counts.steps v.steps
    × (Lines nodes_names node_parser NodeInRange node_line v.counts.nodes v.nodes
    × (record { counts = v.counts; states = v.states; steps = v.steps; nodes = v.nodes } ≡ v))))

in_range : (v : Sheet) → Parts v → InRange v
unfolding Parts Lines
in_range v h =
    record {
      counts = h.0.1;
      states_count = h.1.0.1.0;
      steps_count = h.1.1.0.1.0;
      nodes_count = h.1.1.1.0.1.0;
      states = h.1.0.1.1;
      steps = h.1.1.0.1.1;
      nodes = h.1.1.1.0.1.1;
    }

range_in : (v : Sheet) → InRange v → Parts v
unfolding Parts Lines
range_in v h = (
  (tt, h.counts),
  ((tt, (h.states_count, h.states)), ((tt, (h.steps_count, h.steps)), ((tt, (h.nodes_count, h.nodes)), refl))),
)

-- the parser of sheets takes exactly the renderings of values in their ranges
pub sheet_exact : Exact sheet_parser InRange render
unfolding sheet_parser render Parts
sheet_exact =
    exact_as
    (exact_then counts_block _ _ _ _ _ (λ (v : Sheet). v.counts)
    (block_exact counts_names counts_parser CountsInRange counts_line counts_exact)
    (λ c. exact_then (states_block c.states) _ _ _ _ _ (λ (v : Sheet). v.states)
    (lines_exact states_names state_parser StateInRange state_line state_exact c.states)
    (λ s. exact_then (steps_block c.steps) _ _ _ _ _ (λ (v : Sheet). v.steps)
    (lines_exact steps_names step_parser StepInRange step_line step_exact c.steps)
    (λ x. exact_then (nodes_block c.nodes) _ _ _ _ _ (λ (v : Sheet). v.nodes)
    (lines_exact nodes_names node_parser NodeInRange node_line node_exact c.nodes)
    (λ z. exact_return (record { counts = c; states = s; steps = x; nodes = z }))
    (λ z v q. ap (λ (w : Sheet). w.nodes) q))
    (λ x v q. ap (λ (w : Sheet). w.steps) q.1))
    (λ s v q. ap (λ (w : Sheet). w.states) q.1.1))
    (λ c v q. ap (λ (w : Sheet). w.counts) q.1.1.1))
    in_range
    range_in
    (λ v. regroup (counts_names ++ counts_line v.counts) (states_names ++ concat_map state_line v.states)
    (steps_names ++ concat_map step_line v.steps) (nodes_names ++ concat_map node_line v.nodes))

whole_some : (x : Parsed Sheet) (v : Sheet) → whole x ≡ Some v → x ≡ got v []
whole_some (got w []) v e = let same : w ≡ v = cc in ap (λ (u : Sheet). got u []) same
whole_some (got w (b ∷ rest)) v e = absurd (none_some v e)
whole_some broken v e = absurd (none_some v e)

-- a text parses to values exactly when they are in their ranges and the text is their rendering
pub parse_exact : (text : List ℕ) (v : Sheet) → (parse text ≡ Some v) ↔ (InRange v × (text ≡ render v))
unfolding parse
parse_exact text v = (to, back)
  where
    to : parse text ≡ Some v → InRange v × (text ≡ render v)
    to e =
        let s = sheet_exact.sound text v [] (whole_some (sheet_parser text) v e) in
        (s.0, s.1 ∙ append-nil (render v))

    back : InRange v × (text ≡ render v) → parse text ≡ Some v
    back h =
        ap (λ (l : List ℕ). whole (sheet_parser l)) (h.1 ∙ sym (append-nil (render v)))
        ∙ ap whole (sheet_exact.complete v [] h.0)

-- values in their ranges parse back from their rendering
pub parse-render : (v : Sheet) → InRange v → parse (render v) ≡ Some v
parse-render v h = (parse_exact (render v) v).1 (h, refl)

-- a text has at most one reading
pub render_injective : (v w : Sheet) → InRange v → InRange w → render v ≡ render w → v ≡ w
render_injective v w h k e =
    let a : parse (render w) ≡ Some v = ap parse (sym e) ∙ parse-render v h in
    let b : parse (render w) ≡ Some w = parse-render w k in
    cc

-- a text is of sheet form exactly when it parses
pub sheet_parses : (text : List ℕ) → IsSheet text ↔ ((v : Sheet) × (parse text ≡ Some v))
sheet_parses text =
    (λ s. (s.0, (parse_exact text s.0).1 (s.1, s.2)), λ p. (let q = (parse_exact text p.0).0 p.1 in (p.0, q.0, q.1)))

-- what is read up to the end of the text is the whole, and what is read with more behind it is not
pub whole_read : (v : Sheet) (rest : List ℕ) → (length rest == 0) ≡ true → whole (got v rest) ≡ Some v
whole_read v [] e = refl
whole_read v (b ∷ rest) e = absurd (let none_left : length (b ∷ rest) ≡ 0 = eqb-true _ 0 e in omega arith)

pub not_whole : (v : Sheet) (rest : List ℕ) → (length rest == 0) ≡ false → whole (got v rest) ≡ None
not_whole v [] e = absurd cc
not_whole v (b ∷ rest) e = refl
