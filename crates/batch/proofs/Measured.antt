-- What the tables of some bytes need, from what the first of them and those behind it need.
use Prim.Native.Nat.{ℕ, zero, suc, ◌+◌, ◌-◌, ◌*◌, ◌≤◌, max}
use native.Mathlib.Omega.{arith}
use mathlib.Core.Path.{◌≡◌, refl, sym, ap, ◌∙◌}
use mathlib.Core.List.{List, [], ◌∷◌}
use lib.ListN.{length, take, drop, length-drop}
use lib.Seq.{take-length}
use Rattle.std.specs.Prelude.{Option, Some, None, Ok, Err}
use Rattle.std.proofs.lemmas.Option.{same_Some, none-some}
use Rattle.table.specs.declared.refusal.Refusal.{Refusal}
use Rattle.table.specs.Verdict.{Verdict}
use Rattle.table.proofs.Verdicts.{refused}
use Rattle.table.specs.Table.{table_of, counts_of, packed_length}
use Rattle.table.specs.Accept.{table_verdict}
use Rattle.table.specs.First.{first_bytes, bytes_behind}
use Rattle.circuit.specs.Variables.{variable_formula}
use Rattle.batch.specs.declared.measure.Needs.{Needs}
use Rattle.batch.specs.Batch.{steps_in, most_variables}
use Rattle.batch.specs.Effect.{in_front, no_more, tables_in, all_steps}
use Rattle.batch.specs.Needs.{needs_of}
use Rattle.batch.proofs.Cut.{IsCut, cut}
use Rattle.batch.proofs.Needs.{all_few}

-- ---- the bytes behind the first table, by its length

pub behind_length : (k : ℕ) (xs : List ℕ) → drop (length (take k xs)) xs ≡ drop k xs
behind_length zero xs = refl
behind_length (suc k) [] = refl
behind_length (suc k) (x ∷ xs) = behind_length k xs

-- ---- one step of the cut

pub tables_step : (most : ℕ) (bytes : List ℕ) → ¬ (most ≡ 0) → ¬ (length bytes ≡ 0)
    → tables_in most bytes
    ≡ in_front (first_bytes bytes) (table_verdict (first_bytes bytes)) (tables_in (most - 1) (bytes_behind bytes))
unfolding tables_in
tables_step zero bytes h l = absurd (h refl)
tables_step (suc most) [] h l = absurd (l refl)
tables_step (suc most) (b ∷ bs) h l =
    let same : most ≡ suc most - 1 = omega arith in
    ap (λ (k : ℕ). in_front (first_bytes (b ∷ bs)) (table_verdict (first_bytes (b ∷ bs)))
    (tables_in k (bytes_behind (b ∷ bs)))) same

pub no_bytes : (most : ℕ) (bytes : List ℕ) → length bytes ≡ 0 → tables_in most bytes ≡ Some []
unfolding tables_in
no_bytes zero [] h = refl
no_bytes (suc most) [] h = refl
no_bytes most (b ∷ bs) h = absurd (omega (arith, h))

pub no_tables : (most : ℕ) (bytes : List ℕ) → most ≡ 0 → ¬ (length bytes ≡ 0) → tables_in most bytes ≡ None
unfolding tables_in
no_tables zero [] h l = absurd (l refl)
no_tables zero (b ∷ bs) h l = refl
no_tables (suc most) bytes h l = absurd (omega (arith, h))

-- ---- needs

pub needs_nothing : (o : Option (List (List ℕ))) → o ≡ Some []
    → Some (record { tables = 0; steps = 0; variables = 0 }) ≡ needs_of o
unfolding all_steps most_variables
needs_nothing o e = sym (ap needs_of e)

pub needs_refused : (t : List ℕ) (v : Verdict) (o : Option (List (List ℕ))) → ¬ (v ≡ Ok tt)
    → None ≡ needs_of (in_front t v o)
needs_refused t (Ok tt) o h = absurd (h refl)
needs_refused t (Err r) o h = refl

pub needs_none : (t : List ℕ) (v : Verdict) (o : Option (List (List ℕ))) → None ≡ needs_of o
    → None ≡ needs_of (in_front t v o)
needs_none t (Ok tt) None e = refl
needs_none t (Ok tt) (Some ts) e = absurd (none-some _ e)
needs_none t (Err r) o e = refl

pub needs_more : (t : List ℕ) (v : Verdict) (o : Option (List (List ℕ))) (b : Needs) → v ≡ Ok tt → Some b ≡ needs_of o
    → Some (record {
      tables = 1 + b.tables;
      steps = steps_in t + b.steps;
      variables = max (variable_formula (table_of t)) b.variables;
    }) ≡ needs_of (in_front t v o)
unfolding all_steps most_variables
needs_more t (Ok tt) None b ok e = absurd (none-some b (sym e))
needs_more t (Ok tt) (Some ts) b ok e =
    let same = same_Some b (record { tables = length ts; steps = all_steps ts; variables = most_variables ts }) e in
    let count : 1 + b.tables ≡ suc (length ts) = omega (arith, ap (λ (n : Needs). n.tables) same) in
    λ i. Some (record {
      tables = count i;
      steps = steps_in t + (same i).steps;
      variables = max (variable_formula (table_of t)) (same i).variables;
    })
needs_more t (Err r) o b ok e = absurd (refused r ok)

-- they are few
pub needs_few : (most : ℕ) (bytes : List ℕ) (b : Needs) → Some b ≡ needs_of (tables_in most bytes)
    → (b.tables ≤ most) × (b.steps ≤ 128 * most)
needs_few most bytes b e = go (tables_in most bytes) refl e
  where
    go : (o : Option (List (List ℕ))) → tables_in most bytes ≡ o → Some b ≡ needs_of o
        → (b.tables ≤ most) × (b.steps ≤ 128 * most)
    go None h f = absurd (none-some b (sym f))
    go (Some ts) h f =
        let c = cut most bytes ts h in
        let same = same_Some b (record { tables = length ts; steps = all_steps ts; variables = most_variables ts }) f in
        let count : b.tables ≡ length ts = ap (λ (n : Needs). n.tables) same in
        let sum : b.steps ≡ all_steps ts = ap (λ (n : Needs). n.steps) same in
        (omega (arith, count, c.few), omega (arith, sum, all_few ts c.each, c.few))

-- ---- the bytes behind the first table, as the code takes them

pub rest_slice : (xs t : List ℕ) → t ≡ first_bytes xs
    → take (length xs - length t) (drop (length t) xs) ≡ bytes_behind xs
rest_slice xs t e =
    let k = packed_length (counts_of xs) in
    let whole : length xs - length t ≡ length (drop (length t) xs) = sym (length-drop (length t) xs) in
    ap (λ (n : ℕ). take n (drop (length t) xs)) whole
    ∙ take-length (drop (length t) xs)
    ∙ ap (λ (ys : List ℕ). drop (length ys) xs) e
    ∙ behind_length k xs
