-- What C gets of a batch, by what the call with types gives.
use Prim.Native.Nat.{ℕ, ◌≤◌}
use native.Mathlib.Omega.{arith}
use mathlib.Core.Path.{◌≡◌, refl, sym, ap, ◌∙◌}
use mathlib.Core.Bool.{Bool, true, false, ◌&&◌}
use mathlib.Core.Logic.{◌⊎◌, inl, inr}
use mathlib.Core.List.{List, ◌++◌, map, append_assoc}
use borrow.Author.Tests.{le-leb, leb-true}
use lib.Dec.{leb}
use lib.ListN.{length, take, drop}
use Rattle.std.specs.Prelude.{Option, Some, None, Result, Ok, Err}
use Rattle.table.specs.declared.refusal.Refusal.{Refusal}
use Rattle.table.specs.declared.refusal.Refusal.TheVariants.{ShortBuffer}
use Rattle.table.specs.Verdict.{refusal_number, verdict_number}
use Rattle.table.specs.Buffer.{over}
use Rattle.search.specs.declared.answer.Answer.{Answer}
use Rattle.repair.specs.Effect.{cleared}
use Rattle.batch.specs.declared.BatchEnd.{BatchEnd}
use Rattle.batch.specs.Batch.{most_variables}
use Rattle.batch.specs.Effect.{
  batch_in,
  all_steps,
  answers_of,
  lists_after,
  left_after,
  room_verdict,
  end_of,
  on_tables,
  batch_verdict,
  batch_end,
  batch_lists,
  batch_bytes,
  batch_words,
  batch_answers,
}
use Rattle.batch.proofs.Right.{cut_batch, answers_length}
use Rattle.fitter_c.specs.declared.table_answer.TableAnswer.{TableAnswer}
use Rattle.fitter_c.specs.Answers.{
  for_c,
  answers_for_c,
  tables_for_c,
  left_for_c,
  parcel_verdict,
  parcel_lists,
  parcel_bytes,
  parcel_words,
  parcel_answers,
  parcel_tables,
  parcel_left,
}
use Rattle.fitter_c.proofs.Front.{front_mapped}

-- ---- as many answers as a batch may have are as good as more

same_test : (k n m : ℕ) → (k ≤ n → k ≤ m) → (k ≤ m → k ≤ n) → leb k n ≡ leb k m
same_test k n m f g = go (leb k n) (leb k m) refl refl
  where
    go : (a b : Bool) → leb k n ≡ a → leb k m ≡ b → a ≡ b
    go true true p q = refl
    go true false p q = sym (le-leb k m (f (leb-true k n p))) ∙ q
    go false true p q = sym p ∙ le-leb k n (g (leb-true k m q))
    go false false p q = refl

pub same_room : (bytes : List ℕ) (l w v m n : ℕ) → (m ≤ n) → (n ≤ m) ⊎ (8 ≤ m)
    → room_verdict (batch_in bytes) l w v m ≡ room_verdict (batch_in bytes) l w v n
same_room bytes l w v m n low high = go (batch_in bytes) refl
  where
    enough : (k : ℕ) → k ≤ 8 → (n ≤ m) ⊎ (8 ≤ m) → k ≤ n → k ≤ m
    enough k few (inl h) x = omega (arith, h, x)
    enough k few (inr h) x = omega (arith, h, few)

    go : (o : Option (List (List ℕ))) → batch_in bytes ≡ o → room_verdict o l w v m ≡ room_verdict o l w v n
    go None e = refl
    go (Some ts) e =
        ap (λ (b : Bool). elim (leb (all_steps ts) l && leb (most_variables ts) w && leb (most_variables ts) v && b)
        [ true ↦ Ok ts | false ↦ Err ShortBuffer ])
        (same_test (length ts) m n (λ h. omega (arith, h, low)) (enough (length ts) (cut_batch bytes ts e).few high))

-- ---- refused

module _ (v : Result (List (List ℕ)) Refusal) (cap : ℕ) where
  pub refused_by : (r : Refusal) → Err r ≡ end_of v cap → v ≡ Err r
  refused_by r e = go v e
    where
      go : (v : Result (List (List ℕ)) Refusal) → Err r ≡ end_of v cap → v ≡ Err r
      go (Ok ts) e = absurd (let z : ◌≡◌ {A = ℕ} 0 1 = cc in omega arith)
      go (Err q) e = cc

  pub record Taken (end : BatchEnd) : Type 0 where
    pub ts : List (List ℕ)
    pub verdict : v ≡ Ok ts
    pub tables : end.tables ≡ length ts
    pub left : end.left ≡ left_after ts cap

  pub taken_by : (end : BatchEnd) → Ok end ≡ end_of v cap → Taken end
  taken_by end e = go v refl e
    where
      go : (w : Result (List (List ℕ)) Refusal) → v ≡ w → Ok end ≡ end_of w cap → Taken end
      go (Ok ts) h e =
          let same : end ≡ record { tables = length ts; left = left_after ts cap } = cc in
          record {
            ts = ts;
            verdict = h;
            tables = ap (λ (x : BatchEnd). x.tables) same;
            left = ap (λ (x : BatchEnd). x.left) same;
          }
      go (Err q) h e = absurd (let z : ◌≡◌ {A = ℕ} 0 1 = cc in omega arith)

-- ---- the answers at the front of what C lends

pub front_answers : (ts : List (List ℕ)) (cap k : ℕ) (more rest : List Answer) (out : List TableAnswer) → k ≡ length ts
    → over k (map for_c ((answers_of ts cap ++ more) ++ rest)) out
    ≡ map for_c (answers_of ts cap) ++ drop (length ts) out
front_answers ts cap k more rest out e =
    let n : k ≡ length (answers_of ts cap) = e ∙ sym (answers_length ts cap) in
    (λ i. take (n i) (map for_c (append_assoc (answers_of ts cap) more rest i)) ++ drop (e i) out)
    ∙ ap (λ (xs : List TableAnswer). xs ++ drop (length ts) out) (front_mapped for_c (answers_of ts cap) (more ++ rest))

-- ---- each clause of the call for C

module _ (parcel : List ℕ) (cap : ℕ) (lists bytes words : List ℕ) (own : List Answer) (out : List TableAnswer) (m : ℕ)
    (size : length own ≡ m) (low : m ≤ length out) (high : (length out ≤ m) ⊎ (8 ≤ m)) where
  abbrev V : Result (List (List ℕ)) Refusal
  V = parcel_verdict parcel cap lists bytes words out

  same : batch_verdict parcel cap lists bytes words own ≡ V
  same =
      ap (λ (k : ℕ). room_verdict (batch_in parcel) (length lists) (length bytes) (length words) k) size
      ∙ same_room parcel (length lists) (length bytes) (length words) m (length out) low high

  pub record Clauses (number : ℕ) (lists' bytes' words' : List ℕ) (out' : List TableAnswer)
      (tables tables' left left' : ℕ) : Type 0 where
    pub value : number ≡ verdict_number V
    pub lists_after : lists' ≡ parcel_lists parcel cap lists bytes words out
    pub bytes_after : bytes' ≡ parcel_bytes parcel cap lists bytes words out
    pub words_after : words' ≡ parcel_words parcel cap lists bytes words out
    pub answers_after : out' ≡ parcel_answers parcel cap lists bytes words out
    pub tables_after : tables' ≡ parcel_tables parcel cap lists bytes words out tables
    pub left_after : left' ≡ parcel_left parcel cap lists bytes words out left

  module _ (lists' bytes' words' : List ℕ) (a : lists' ≡ batch_lists parcel cap lists bytes words own)
      (b : bytes' ≡ batch_bytes parcel cap lists bytes words own)
      (w : words' ≡ batch_words parcel cap lists bytes words own)
      (tables left : ℕ) where
    pub refused_clauses : (r : Refusal) → Err r ≡ batch_end parcel cap lists bytes words own
        → Clauses (refusal_number r) lists' bytes' words' out tables tables left left
    refused_clauses r e =
        let v : V ≡ Err r = sym same ∙ refused_by (batch_verdict parcel cap lists bytes words own) cap r e in
        record {
          value = sym (ap verdict_number v);
          lists_after =
              a ∙ ap (λ (x : Result (List (List ℕ)) Refusal). on_tables x (λ ts. lists_after ts cap lists) lists) same;
          bytes_after =
              b
              ∙ ap (λ (x : Result (List (List ℕ)) Refusal).
              on_tables x (λ ts. cleared (most_variables ts) bytes) bytes) same;
          words_after =
              w
              ∙ ap (λ (x : Result (List (List ℕ)) Refusal).
              on_tables x (λ ts. cleared (most_variables ts) words) words) same;
          answers_after = sym (ap (λ (x : Result (List (List ℕ)) Refusal). answers_for_c x cap out) v);
          tables_after = sym (ap (λ (x : Result (List (List ℕ)) Refusal). tables_for_c (end_of x cap) tables) v);
          left_after = sym (ap (λ (x : Result (List (List ℕ)) Refusal). left_for_c (end_of x cap) left) v);
        }

    pub given_clauses : (end : BatchEnd) (own' rest : List Answer) (out' : List TableAnswer)
        → Ok end ≡ batch_end parcel cap lists bytes words own → own' ≡ batch_answers parcel cap lists bytes words own
        → out' ≡ over end.tables (map for_c (own' ++ rest)) out
        → Clauses 0 lists' bytes' words' out' tables end.tables left end.left
    given_clauses end own' rest out' e f g =
        let t = taken_by (batch_verdict parcel cap lists bytes words own) cap end e in
        let v : V ≡ Ok t.ts = sym same ∙ t.verdict in
        let all : own' ≡ answers_of t.ts cap ++ drop (length t.ts) own =
        f ∙ ap (λ (x : Result (List (List ℕ)) Refusal).
        on_tables x (λ ts. answers_of ts cap ++ drop (length ts) own) own) t.verdict in
        record {
          value = sym (ap verdict_number v);
          lists_after =
              a ∙ ap (λ (x : Result (List (List ℕ)) Refusal). on_tables x (λ ts. lists_after ts cap lists) lists) same;
          bytes_after =
              b
              ∙ ap (λ (x : Result (List (List ℕ)) Refusal).
              on_tables x (λ ts. cleared (most_variables ts) bytes) bytes) same;
          words_after =
              w
              ∙ ap (λ (x : Result (List (List ℕ)) Refusal).
              on_tables x (λ ts. cleared (most_variables ts) words) words) same;
          answers_after =
              g ∙ ap (λ (xs : List Answer). over end.tables (map for_c (xs ++ rest)) out) all
              ∙ front_answers t.ts cap end.tables (drop (length t.ts) own) rest out t.tables
              ∙ sym (ap (λ (x : Result (List (List ℕ)) Refusal). answers_for_c x cap out) v);
          tables_after =
              t.tables ∙ sym (ap (λ (x : Result (List (List ℕ)) Refusal). tables_for_c (end_of x cap) tables) v);
          left_after = t.left ∙ sym (ap (λ (x : Result (List (List ℕ)) Refusal). left_for_c (end_of x cap) left) v);
        }
