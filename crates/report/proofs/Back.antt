-- A table for which a refusal is named is refused so.
use Prim.Native.Nat.{ℕ}
use mathlib.Core.Path.{◌≡◌, refl, sym, ap, ◌∙◌}
use mathlib.Core.Logic.{◌↔◌, inl, inr}
use mathlib.Core.Bool.{Bool, true, false, false≢true}
use mathlib.Core.List.{List}
use native.Mathlib.Omega.{arith}
use lib.ListN.{length}
use lib.Dec.{leb, eqb}
use Rattle.std.specs.Prelude.{Err}
use Rattle.table.specs.declared.refusal.Refusal.{Refusal}
use Rattle.table.specs.declared.refusal.Refusal.TheVariants.{
  SheetForm,
  Length,
  Counts as CountsRefused,
  StateRecord,
  NoInitial,
  StepEnd,
  RepeatedStep,
  NodeRecord,
  ListForm,
  ShortBuffer,
  NotTotal,
  NoInitialKept,
  RootFails,
  UnreachedStep,
  NotTables,
}
use Rattle.table.specs.Verdict.{Verdict, require, ◌then◌}
use Rattle.table.specs.Table.{Table, table_of, counts_of, packed_length, header_width, is_initial}
use Rattle.table.specs.Accept.{
  all,
  any,
  distinct,
  counts_fit,
  state_fits,
  step_fits,
  nodes_fit,
  records_verdict,
  table_verdict,
}
use Rattle.table.specs.Refused.{RightLength, StatesFit, SomeInitial, TableRefused}
use Rattle.table.proofs.Bools.{not_so}
use Rattle.table.proofs.Verdicts.{then_assoc}
use Rattle.table.proofs.Decided.{
  at_most_decided,
  same_decided,
  counts_decided,
  states_decided,
  initial_decided,
  ends_decided,
  distinct_decided,
  nodes_decided,
}

-- a test that holds leaves the verdict to the next one
passes : (q : Refusal) (b : Bool) (w v : Verdict) → b ≡ true → w ≡ v → require q b then w ≡ v
passes q true w v e h = h
passes q false w v e h = absurd (false≢true e)

-- one that fails refuses
fails : (q : Refusal) (b : Bool) (w : Verdict) → b ≡ false → require q b then w ≡ Err q
fails q true w e = absurd (false≢true (sym e))
fails q false w e = refl

fails_last : (q : Refusal) (b : Bool) → b ≡ false → require q b ≡ Err q
fails_last q true e = absurd (false≢true (sym e))
fails_last q false e = refl

-- a test whose rule does not hold
not_held : {P : Type 0} (b : Bool) → ((b ≡ true) ↔ P) → ¬ P → b ≡ false
not_held b decided n = not_so b (λ e. n (decided.0 e))

module _ (bytes : List ℕ) where
  abbrev T : Table
  T = table_of bytes

  abbrev long : Bool
  long = leb header_width (length bytes)

  abbrev whole : Bool
  whole = eqb (length bytes) (packed_length (counts_of bytes))

  abbrev states : Bool
  states = all (state_fits T.props) T.states

  abbrev initial : Bool
  initial = any is_initial T.states

  abbrev ends : Bool
  ends = all (step_fits (length T.states)) T.steps

  abbrev once : Bool
  once = distinct T.steps

  abbrev nodes : Bool
  nodes = nodes_fit T.props 0 T.nodes

  -- the tests of the records, one after the other
  abbrev behind_initial : Verdict
  behind_initial = require StepEnd ends then (require RepeatedStep once then require NodeRecord nodes)

  abbrev in_order : Verdict
  in_order = require StateRecord states then (require NoInitial initial then behind_initial)

  in_turn : (v : Verdict) → in_order ≡ v → records_verdict T ≡ v
  in_turn v h =
      then_assoc (require StateRecord states) (require NoInitial initial) _
      ∙ ap
      (λ (w : Verdict). require StateRecord states then (require NoInitial initial then w))
      (then_assoc (require StepEnd ends) (require RepeatedStep once) (require NodeRecord nodes))
      ∙ h

  -- bytes of the right length are refused by the tests of their records
  by_records : RightLength bytes → (v : Verdict) → in_order ≡ v → table_verdict bytes ≡ v
  unfolding table_verdict
  by_records right v h =
      passes Length long _ v ((at_most_decided header_width (length bytes)).1 right.header)
      (passes CountsRefused (counts_fit (counts_of bytes)) _ v ((counts_decided (counts_of bytes)).1 right.counts)
      (passes Length whole _ v ((same_decided (length bytes) (packed_length (counts_of bytes))).1 right.whole)
      (in_turn v h)))

  behind_two : RightLength bytes → StatesFit T → SomeInitial T → (v : Verdict) → behind_initial ≡ v
      → table_verdict bytes ≡ v
  behind_two right fit some v h =
      by_records right v
      (passes StateRecord states _ v ((states_decided T).1 fit)
      (passes NoInitial initial _ v ((initial_decided T).1 some) h))

  pub refused_back : (r : Refusal) → TableRefused bytes r → table_verdict bytes ≡ Err r
  unfolding table_verdict
  refused_back Length (inl few) =
      fails Length long _ (not_held long (at_most_decided header_width (length bytes)) (λ h. omega (arith, few, h)))
  refused_back Length (inr t) =
      passes Length long _ _ ((at_most_decided header_width (length bytes)).1 t.0)
      (passes CountsRefused (counts_fit (counts_of bytes)) _ _ ((counts_decided (counts_of bytes)).1 t.1)
      (fails Length whole _ (not_held whole (same_decided (length bytes) (packed_length (counts_of bytes))) t.2)))
  refused_back CountsRefused t =
      passes Length long _ _ ((at_most_decided header_width (length bytes)).1 t.0)
      (fails CountsRefused (counts_fit (counts_of bytes)) _ (not_held _ (counts_decided (counts_of bytes)) t.1))
  refused_back StateRecord t = by_records t.0 _ (fails StateRecord states _ (not_held states (states_decided T) t.1))
  refused_back NoInitial t =
      by_records t.0 _
      (passes StateRecord states _ _ ((states_decided T).1 t.1)
      (fails NoInitial initial _ (not_held initial (initial_decided T) t.2)))
  refused_back StepEnd t = behind_two t.0 t.1 t.2 _ (fails StepEnd ends _ (not_held ends (ends_decided T) t.3))
  refused_back RepeatedStep t =
      behind_two t.0 t.1 t.2 _
      (passes StepEnd ends _ _ ((ends_decided T).1 t.3)
      (fails RepeatedStep once _ (not_held once (distinct_decided T) t.4)))
  refused_back NodeRecord t =
      behind_two t.0 t.1 t.2 _
      (passes StepEnd ends _ _ ((ends_decided T).1 t.3)
      (passes RepeatedStep once _ _ ((distinct_decided T).1 t.4)
      (fails_last NodeRecord nodes (not_held nodes (nodes_decided T) t.5))))
  refused_back SheetForm t = absurd t
  refused_back ListForm t = absurd t
  refused_back ShortBuffer t = absurd t
  refused_back NotTotal t = absurd t
  refused_back NoInitialKept t = absurd t
  refused_back RootFails t = absurd t
  refused_back UnreachedStep t = absurd t
  refused_back NotTables t = absurd t
