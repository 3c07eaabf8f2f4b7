-- What the tests of the call come to, by what the tables need.
use Prim.Native.Nat.{ℕ, suc, ◌≤◌, ◌<◌}
use native.Mathlib.Omega.{arith}
use mathlib.Core.Path.{◌≡◌, refl, sym, ap, subst, ◌∙◌}
use mathlib.Core.Bool.{Bool, true, false}
use mathlib.Core.List.{List, [], ◌∷◌, ◌++◌}
use lib.ListN.{length, drop}
use Rattle.std.specs.Prelude.{Option, Some, None, Result, Ok, Err, IsOk, IfErr, IfOk, IsSome, ◌↔◌}
use Rattle.std.proofs.lemmas.Option.{same_Some, none-some}
use Rattle.table.specs.declared.refusal.Refusal.{Refusal}
use Rattle.table.specs.declared.refusal.Refusal.TheVariants.{ShortBuffer, NotTables}
use Rattle.search.specs.declared.answer.Answer.{Answer}
use Rattle.repair.specs.Effect.{cleared}
use Rattle.batch.specs.declared.measure.Needs.{Needs}
use Rattle.batch.specs.Batch.{most_tables, most_variables}
use Rattle.batch.specs.Effect.{
  tables_in,
  at_least_one,
  batch_in,
  all_steps,
  answers_of,
  lists_after,
  left_after,
  room_for,
  room_verdict,
  batch_verdict,
}
use Rattle.batch.specs.Needs.{needs_of, tables_or_none}
use Rattle.batch.specs.Right.{RoomFor, BatchTaken, BatchRefused, BatchIsRight}
use Rattle.batch.proofs.Needs.{before_all}
use Rattle.batch.proofs.Right.{has_room, room_back, tests_told, given_right}

module _ (bytes : List ℕ) (cap : ℕ) (lists work words : List ℕ) (answers : List Answer) where
  abbrev o : Option (List (List ℕ))
  o = tables_in most_tables bytes

  abbrev ts : List (List ℕ)
  ts = tables_or_none o

  abbrev verdict : Result (List (List ℕ)) Refusal
  verdict = batch_verdict bytes cap lists work words answers

  -- ---- no batch

  no_needs : (q : Option (List (List ℕ))) → None ≡ needs_of q → at_least_one q ≡ None
  no_needs None e = refl
  no_needs (Some us) e = absurd (none-some _ e)

  pub not_cut : None ≡ needs_of o → verdict ≡ Err NotTables
  not_cut e = ap (λ (q : Option (List (List ℕ))). room_verdict q (length lists) (length work) (length words)
      (length answers)) (no_needs o e)

  no_table : (q : Option (List (List ℕ))) (b : Needs) → Some b ≡ needs_of q → b.tables ≡ 0 → at_least_one q ≡ None
  no_table None b e z = refl
  no_table (Some []) b e z = refl
  no_table (Some (t ∷ us)) b e z =
      let count : b.tables ≡ suc (length us) = ap (λ (n : Needs). n.tables) (same_Some b _ e) in
      absurd (omega (arith, count, z))

  pub none_cut : (b : Needs) → Some b ≡ needs_of o → b.tables ≡ 0 → verdict ≡ Err NotTables
  none_cut b e z = ap (λ (q : Option (List (List ℕ))). room_verdict q (length lists) (length work) (length words)
      (length answers)) (no_table o b e z)

  -- ---- a batch

  module _ (b : Needs) (e : Some b ≡ needs_of o) (some : ¬ (b.tables ≡ 0)) where
    known : (q : Option (List (List ℕ))) → Some b ≡ needs_of q
        → (at_least_one q ≡ Some (tables_or_none q)) × (b.tables ≡ length (tables_or_none q))
        × (b.steps ≡ all_steps (tables_or_none q)) × (b.variables ≡ most_variables (tables_or_none q)) × IsSome q
    known None h = absurd (none-some b (sym h))
    known (Some []) h = absurd (some (ap (λ (n : Needs). n.tables) (same_Some b _ h)))
    known (Some (t ∷ us)) h =
        let same = same_Some b _ h in (
          refl,
          ap (λ (n : Needs). n.tables) same,
          ap (λ (n : Needs). n.steps) same,
          ap (λ (n : Needs). n.variables) same,
          refl,
        )

    pub is_cut : IsSome o
    is_cut = (known o e).4

    pub tables_are : b.tables ≡ length ts
    tables_are = (known o e).1

    pub steps_are : b.steps ≡ all_steps ts
    steps_are = (known o e).2

    pub variables_are : b.variables ≡ most_variables ts
    variables_are = (known o e).3

    abbrev room : Bool
    room = room_for ts (length lists) (length work) (length words) (length answers)

    at_room : verdict ≡ room_verdict (Some ts) (length lists) (length work) (length words) (length answers)
    at_room = ap (λ (q : Option (List (List ℕ))). room_verdict q (length lists) (length work) (length words)
        (length answers)) (known o e).0

    abbrev pick : Bool → Result (List (List ℕ)) Refusal
    pick x = elim x [ true ↦ Ok ts | false ↦ Err ShortBuffer ]

    pub short : ¬ RoomFor ts (length lists) (length work) (length words) (length answers) → verdict ≡ Err ShortBuffer
    short h = at_room ∙ go room refl
      where
        go : (x : Bool) → room ≡ x → pick room ≡ Err ShortBuffer
        go true r = absurd (h (has_room ts _ _ _ _ r))
        go false r = ap pick r

    -- a room is short where one of its parts is
    pub lists_short : length lists < b.steps → verdict ≡ Err ShortBuffer
    lists_short h = short (λ r. let l = r.lists_long in omega (arith, h, l, before_all ts, steps_are))

    pub bytes_short : length work < b.variables → verdict ≡ Err ShortBuffer
    bytes_short h = short (λ r. let l = r.bytes_long in omega (arith, h, l, variables_are))

    pub words_short : length words < b.variables → verdict ≡ Err ShortBuffer
    words_short h = short (λ r. let l = r.words_long in omega (arith, h, l, variables_are))

    pub answers_short : length answers < b.tables → verdict ≡ Err ShortBuffer
    answers_short h = short (λ r. let l = r.answers_long in omega (arith, h, l, tables_are))

    pub long : b.steps ≤ length lists → b.variables ≤ length work → b.variables ≤ length words
        → b.tables ≤ length answers → verdict ≡ Ok ts
    long l w v a =
        let fits : RoomFor ts (length lists) (length work) (length words) (length answers) = record {
          lists_long = omega (arith, l, before_all ts, steps_are);
          bytes_long = omega (arith, w, variables_are);
          words_long = omega (arith, v, variables_are);
          answers_long = omega (arith, a, tables_are);
        } in
        at_room ∙ ap pick (room_back ts _ _ _ _ fits)
