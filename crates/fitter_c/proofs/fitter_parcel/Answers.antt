-- `fitter_parcel` meets its contract: as many answers as a batch may have are lent to the call with types, and what it
-- gives is handed on.
use Prim.Native.Nat.{ℕ, ◌≤◌, min}
use native.Mathlib.Decide.{dec_le}
use native.Mathlib.Nat.{min-eq_left, min-eq_right, min-le_right}
use native.Mathlib.Omega.{arith}
use mathlib.Core.Path.{◌≡◌, sym, ◌∙◌}
use mathlib.Core.Logic.{◌⊎◌, inl, inr}
use mathlib.Core.List.{List}
use lib.ListN.{length, take, drop, replicate}
use lib.Seq.{length-take-le}
use Rattle.std.proofs.Common.{rules}
use Rattle.std.specs.Prelude.{Ok, Err}
use Rattle.search.specs.declared.answer.Answer.{Answer}
use Rattle.search.specs.declared.answer.Answer.TheVariants.{None as Nothing}
use Rattle.fitter_c.proofs.Parcel.{refused_clauses, given_clauses}
use Rattle.fitter_c.proofs.fitter_parcel.Goals as goal

-- the room that is lent is as good as all of it
enough : (n m : ℕ) → m ≡ min n 8 → (m ≤ n) × ((n ≤ m) ⊎ (8 ≤ m))
enough n m e = elim (dec_le n 8) [
  | yes h ↦ let s : m ≡ n = e ∙ min-eq_left h in (omega (arith, s), inl (omega (arith, s)))
  | no d ↦
      let l : 8 ≤ n = omega (arith, d) in
      let s : m ≡ 8 = e ∙ min-eq_right l in
      (omega (arith, s, l), inr (omega (arith, s)))
]

-- what is lent to it
abbrev nothing_yet : List Answer
nothing_yet = replicate 8 (Nothing 0 0)

lent_size : (n m : ℕ) → m ≡ min n 8 → length (take m nothing_yet) ≡ m
lent_size n m e = let most = min-le_right n 8 in length-take-le m nothing_yet (omega (arith, most, e))

pub returns-in-Err : goal.returns-in-Err
returns-in-Err c =
    let a = c.args in
    let m : c.min-room.result ≡ min (length a.answers.now) 8 = search rules in
    let both = enough (length a.answers.now) c.min-room.result m in
    let got : c.repair_batch.result ≡ Err c.in-Err.refusal = search rules in
    let e = c.repair_batch.ensures in
    let all = refused_clauses a.parcel.now a.cap a.lists.now a.bytes.now a.words.now
    (take c.min-room.result nothing_yet)
    a.answers.now c.min-room.result (lent_size (length a.answers.now) c.min-room.result m) both.0 both.1
    c.repair_batch.new.lists c.repair_batch.new.bytes c.repair_batch.new.words e.lists_after e.bytes_after e.words_after
    a.tables.now a.left.now c.in-Err.refusal (sym got ∙ e.value) in
    record {
      value = c.from.ensures ∙ all.value;
      lists_after = all.lists_after;
      bytes_after = all.bytes_after;
      words_after = all.words_after;
      answers_after = all.answers_after;
      tables_after = all.tables_after;
      left_after = all.left_after;
    }

pub returns-in-Ok : goal.returns-in-Ok
returns-in-Ok c =
    let a = c.args in
    let m : c.min-room.result ≡ min (length a.answers.now) 8 = search rules in
    let both = enough (length a.answers.now) c.min-room.result m in
    let got : c.repair_batch.result ≡ Ok c.in-Ok.end = search rules in
    let e = c.repair_batch.ensures in
    let all = given_clauses a.parcel.now a.cap a.lists.now a.bytes.now a.words.now (take c.min-room.result nothing_yet)
    a.answers.now c.min-room.result (lent_size (length a.answers.now) c.min-room.result m) both.0 both.1
    c.repair_batch.new.lists c.repair_batch.new.bytes c.repair_batch.new.words e.lists_after e.bytes_after e.words_after
    a.tables.now a.left.now c.in-Ok.end c.repair_batch.new.answers (drop c.min-room.result nothing_yet)
    c.store_answers.new.out (sym got ∙ e.value) e.answers_after c.store_answers.ensures in
    record {
      value = all.value;
      lists_after = all.lists_after;
      bytes_after = all.bytes_after;
      words_after = all.words_after;
      answers_after = all.answers_after;
      tables_after = all.tables_after;
      left_after = all.left_after;
    }
