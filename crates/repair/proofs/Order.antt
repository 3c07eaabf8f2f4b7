-- Repair's tests in their order, and what each way out answers and leaves.
use Prim.Native.Nat.{ℕ, ◌≤◌, ◌<◌}
use mathlib.Core.Path.{◌≡◌, refl, sym, ap, ◌∙◌}
use mathlib.Core.Bool.{Bool, ◌&&◌}
use mathlib.Core.List.{List}
use borrow.Author.Tests.{le-leb, lt-leb, leb-true}
use lib.Dec.{leb}
use lib.ListN.{length}
use Rattle.table.specs.declared.refusal.Refusal.{Refusal}
use Rattle.table.specs.declared.refusal.Refusal.TheVariants.{ShortBuffer}
use Rattle.table.specs.Verdict.{Verdict, require}
use Rattle.std.specs.Prelude.{Ok, Err}
use Rattle.table.specs.Buffer.{on_accepted}
use Rattle.table.specs.Table.{table_of}
use Rattle.table.specs.Accept.{table_verdict}
use Rattle.table.proofs.Bools.{and_parts}
use Rattle.table.proofs.Verdicts.{then_refused, then_next, then_accepted, require_accepted}
use Rattle.circuit.specs.Variables.{variable_formula}
use Rattle.search.specs.TableSearch.{search_under}
use Rattle.search.specs.declared.answer.Answer.{Answer}
use Rattle.repair.specs.Effect.{
  repair_verdict,
  answer_at,
  written_after,
  cleared,
  repair_answer,
  repair_list,
  repair_bytes,
  repair_words,
}

module _ (table list bytes words : List ℕ) where
  pub table_refused : (r : Refusal) → table_verdict table ≡ Err r → repair_verdict table list bytes words ≡ Err r
  unfolding repair_verdict
  table_refused r h = then_refused (table_verdict table) _ r h ∙ h

  -- 10, by what its three parts say
  room_tested : table_verdict table ≡ Ok tt → (a b c : Bool)
      → leb (length (table_of table).steps) (length list) ≡ a
      → leb (variable_formula (table_of table)) (length bytes) ≡ b
      → leb (variable_formula (table_of table)) (length words) ≡ c
      → repair_verdict table list bytes words ≡ require ShortBuffer (a && b && c)
  unfolding repair_verdict
  room_tested ok a b c p q r = then_next (table_verdict table) _ ok ∙ (λ j. require ShortBuffer (p j && q j && r j))

  module _ (ok : table_verdict table ≡ Ok tt) where
    pub short_list : length list < length (table_of table).steps
        → repair_verdict table list bytes words ≡ Err ShortBuffer
    short_list h = room_tested ok _ _ _ (lt-leb _ _ h) refl refl

    module _ (long : length (table_of table).steps ≤ length list) where
      pub short_bytes : length bytes < variable_formula (table_of table)
          → repair_verdict table list bytes words ≡ Err ShortBuffer
      short_bytes h = room_tested ok _ _ _ (le-leb _ _ long) (lt-leb _ _ h) refl

      module _ (longer : variable_formula (table_of table) ≤ length bytes) where
        pub short_words : length words < variable_formula (table_of table)
            → repair_verdict table list bytes words ≡ Err ShortBuffer
        short_words h = room_tested ok _ _ _ (le-leb _ _ long) (le-leb _ _ longer) (lt-leb _ _ h)

        pub long_enough : variable_formula (table_of table) ≤ length words
            → repair_verdict table list bytes words ≡ Ok tt
        long_enough h = room_tested ok _ _ _ (le-leb _ _ long) (le-leb _ _ longer) (le-leb _ _ h)

-- what accepting says: every test passed
pub accepted_parts : (table list bytes words : List ℕ) → repair_verdict table list bytes words ≡ Ok tt
    → (table_verdict table ≡ Ok tt)
    × (length (table_of table).steps ≤ length list)
    × (variable_formula (table_of table) ≤ length bytes)
    × (variable_formula (table_of table) ≤ length words)
unfolding repair_verdict
accepted_parts table list bytes words h =
    let t = then_accepted (table_verdict table) _ h in
    let room = and_parts _ _ (require_accepted ShortBuffer _ t.1) in
    let first = and_parts _ _ room.0 in
    (t.0, leb-true _ _ first.0, leb-true _ _ first.1, leb-true _ _ room.1)

module _ (table : List ℕ) (cap : ℕ) (list bytes words : List ℕ) where
  -- an answer, and the buffers that go with it
  abbrev pub Left : Answer → List ℕ → List ℕ → List ℕ → Type 0
  Left answer list' bytes' words' =
      (answer ≡ repair_answer table cap list bytes words)
      × ((list' ≡ repair_list table cap list bytes words)
      × ((bytes' ≡ repair_bytes table cap list bytes words) × (words' ≡ repair_words table cap list bytes words)))

  -- a verdict decides all four: refused, nothing is touched; accepted, the search answers and the work buffers are
  -- cleared
  pub left : (v : Verdict) → repair_verdict table list bytes words ≡ v
      → Left (answer_at v (search_under (table_of table) cap))
      (on_accepted v (written_after (table_of table) (search_under (table_of table) cap) list) list)
      (on_accepted v (cleared (variable_formula (table_of table)) bytes) bytes)
      (on_accepted v (cleared (variable_formula (table_of table)) words) words)
  left v h = (
    ap (λ (w : Verdict). answer_at w (search_under (table_of table) cap)) (sym h),
    (
      ap (λ (w : Verdict). on_accepted w (written_after (table_of table) (search_under (table_of table) cap) list)
          list) (sym h),
      (
        ap (λ (w : Verdict). on_accepted w (cleared (variable_formula (table_of table)) bytes) bytes) (sym h),
        ap (λ (w : Verdict). on_accepted w (cleared (variable_formula (table_of table)) words) words) (sym h),
      ),
    ),
  )
