-- One turn of the code: the first table of the bytes, and those behind it.
use Prim.Native.Nat.{ℕ, zero, suc, ◌+◌, ◌-◌, ◌≤◌, max}
use native.Mathlib.Nat.{le-max_left, le-max_right, not-suc-le-zero}
use native.Mathlib.Omega.{arith}
use mathlib.Core.Path.{◌≡◌, refl, sym, ap, subst, ◌∙◌}
use mathlib.Core.Bool.{true, false≢true}
use mathlib.Core.List.{List, [], ◌∷◌, ◌++◌}
use lib.ListN.{length, take, drop}
use Rattle.std.specs.Prelude.{Option, Some, None, Ok, Err, IsSome, slice_set, unwrap_or}
use Rattle.table.specs.Verdict.{Verdict}
use Rattle.table.specs.Table.{Table, table_of}
use Rattle.table.specs.Accept.{table_verdict}
use Rattle.table.specs.First.{first_bytes, bytes_behind}
use Rattle.circuit.specs.Variables.{variable_formula}
use Rattle.search.specs.declared.answer.Answer.{Answer}
use Rattle.search.specs.Answer.{answer_of}
use Rattle.search.specs.TableSearch.{search_under}
use Rattle.repair.specs.Effect.{written_after, cleared}
use Rattle.batch.specs.Batch.{steps_in, used, most_variables}
use Rattle.batch.specs.Effect.{in_front, tables_in, all_steps, answers_of, lists_after, left_after}
use Rattle.batch.specs.Needs.{tables_or_none}
use Rattle.batch.specs.Right.{choices_in}
use Rattle.batch.proofs.InTurn.{carried}
use Rattle.batch.proofs.Measured.{tables_step, no_bytes, no_tables, rest_slice}
use Rattle.batch.proofs.Work.{cleared_twice}

-- ---- no table more

abbrev no_tables_given : Option (List (List ℕ))
no_tables_given = None

some_none : IsSome no_tables_given → ⊥
some_none h = false≢true h

-- bytes that are some tables, and of which none may be taken, are none
pub none_more : (most : ℕ) (rest : List ℕ) → IsSome (tables_in most rest) → most ≡ 0
    → tables_or_none (tables_in most rest) ≡ []
none_more most [] h e = ap tables_or_none (no_bytes most [] refl)
none_more most (b ∷ bs) h e =
    absurd (some_none (subst IsSome (no_tables most (b ∷ bs) e (λ l. absurd (omega (arith, l)))) h))

pub none_there : (most : ℕ) (rest : List ℕ) → length rest ≡ 0 → tables_or_none (tables_in most rest) ≡ []
none_there most rest e = ap tables_or_none (no_bytes most rest e)

-- a first table that is refused is in none
pub not_refused : (most : ℕ) (rest : List ℕ) → ¬ (most ≡ 0) → ¬ (length rest ≡ 0) → IsSome (tables_in most rest)
    → ¬ (table_verdict (first_bytes rest) ≡ Ok tt) → ⊥
not_refused most rest more some h refused =
    some_none (go (table_verdict (first_bytes rest)) refused (subst IsSome (tables_step most rest more some) h))
  where
    go : (v : Verdict) → ¬ (v ≡ Ok tt)
        → IsSome (in_front (first_bytes rest) v (tables_in (most - 1) (bytes_behind rest)))
        → IsSome no_tables_given
    go (Ok tt) h′ x = absurd (h′ refl)
    go (Err r) h′ x = x

-- ---- the first table, and those behind it

module _ (most : ℕ) (rest t : List ℕ) (more : ¬ (most ≡ 0)) (some : ¬ (length rest ≡ 0)) (first : t ≡ first_bytes rest)
    (ok : table_verdict t ≡ Ok tt) (tabled : IsSome (tables_in most rest)) where
  abbrev behind : List ℕ
  behind = take (length rest - length t) (drop (length t) rest)

  abbrev us : List (List ℕ)
  us = tables_or_none (tables_in (most - 1) behind)

  same : tables_in most rest ≡ in_front t (Ok tt) (tables_in (most - 1) behind)
  same =
      tables_step most rest more some
      ∙ ap (λ (xs : List ℕ). in_front xs (table_verdict xs) (tables_in (most - 1) (bytes_behind rest))) (sym first)
      ∙ ap (λ (v : Verdict). in_front t v (tables_in (most - 1) (bytes_behind rest))) ok
      ∙ ap (λ (xs : List ℕ). in_front t (Ok tt) (tables_in (most - 1) xs)) (sym (rest_slice rest t first))

  split : (o : Option (List (List ℕ))) → IsSome (in_front t (Ok tt) o)
      → IsSome o × (tables_or_none (in_front t (Ok tt) o) ≡ t ∷ tables_or_none o)
  split None h = absurd (some_none h)
  split (Some ts) h = (refl, refl)

  there : IsSome (tables_in (most - 1) behind)
      × (tables_or_none (in_front t (Ok tt) (tables_in (most - 1) behind)) ≡ t ∷ us)
  there = split (tables_in (most - 1) behind) (subst IsSome same tabled)

  pub behind_some : IsSome (tables_in (most - 1) behind)
  behind_some = there.0

  pub whole : tables_or_none (tables_in most rest) ≡ t ∷ us
  whole = ap tables_or_none same ∙ there.1

  pub all_is : all_steps (tables_or_none (tables_in most rest)) ≡ steps_in t + all_steps us
  unfolding all_steps
  all_is = ap all_steps whole

  pub most_is : most_variables (tables_or_none (tables_in most rest))
      ≡ max (variable_formula (table_of t)) (most_variables us)
  unfolding most_variables
  most_is = ap most_variables whole

  pub count_is : length (tables_or_none (tables_in most rest)) ≡ suc (length us)
  count_is = ap length whole

  pub first_fits : (k : ℕ) → most_variables (tables_or_none (tables_in most rest)) ≤ k
      → variable_formula (table_of t) ≤ k
  first_fits k h =
      let low = le-max_left (variable_formula (table_of t)) (most_variables us) in omega (arith, h, most_is, low)

  pub rest_fits : (k : ℕ) → most_variables (tables_or_none (tables_in most rest)) ≤ k → most_variables us ≤ k
  rest_fits k h =
      let low = le-max_right (variable_formula (table_of t)) (most_variables us) in omega (arith, h, most_is, low)

  -- ---- what the turn gives, with what the tables behind it are given

  pub left_turn : (cap left : ℕ) → left ≡ cap - used t cap
      → left_after us left ≡ left_after (tables_or_none (tables_in most rest)) cap
  unfolding left_after
  left_turn cap left e = ap (left_after us) e ∙ ap (λ (ts : List (List ℕ)). left_after ts cap) (sym whole)

  pub lists_turn : (cap left : ℕ) (lists : List ℕ) → left ≡ cap - used t cap
      → written_after (table_of t) (search_under (table_of t) cap) (take (steps_in t) lists)
      ++ lists_after us left (drop (steps_in t) lists) ≡ lists_after (tables_or_none (tables_in most rest)) cap lists
  unfolding lists_after
  lists_turn cap left lists e =
      ap (λ (k : ℕ). written_after (table_of t) (search_under (table_of t) cap) (take (steps_in t) lists)
      ++ lists_after us k (drop (steps_in t) lists)) e
      ∙ ap (λ (ts : List (List ℕ)). lists_after ts cap lists) (sym whole)

  pub work_turn : (b : List ℕ) → most_variables (tables_or_none (tables_in most rest)) ≤ length b
      → cleared (most_variables us) (cleared (variable_formula (table_of t)) b)
      ≡ cleared (most_variables (tables_or_none (tables_in most rest))) b
  work_turn b h =
      cleared_twice (variable_formula (table_of t)) (most_variables us) b
      (first_fits (length b) h) (rest_fits (length b) h)
      ∙ ap (λ (k : ℕ). cleared k b) (sym most_is)

  pub answers_turn : (cap left : ℕ) (answers : List Answer) → left ≡ cap - used t cap → 1 ≤ length answers
      → slice_set (take 1 answers) 0 (answer_of (search_under (table_of t) cap))
      ++ (answers_of us left ++ drop (length us) (drop 1 answers))
      ≡ answers_of (tables_or_none (tables_in most rest)) cap
      ++ drop (length (tables_or_none (tables_in most rest))) answers
  unfolding answers_of
  answers_turn cap left [] e h = absurd (not-suc-le-zero h)
  answers_turn cap left (x ∷ xs) e h =
      ap (λ (k : ℕ). answer_of (search_under (table_of t) cap) ∷ (answers_of us k ++ drop (length us) xs)) e
      ∙ ap (λ (ts : List (List ℕ)). answers_of ts cap ++ drop (length ts) (x ∷ xs)) (sym whole)

-- the choices that the answer carries are those that the table uses
pub choices_used : (t : List ℕ) (cap : ℕ) → choices_in (answer_of (search_under (table_of t) cap)) ≡ used t cap
choices_used t cap = ap (λ (o : Option ℕ). unwrap_or o 0) (carried (search_under (table_of t) cap))
