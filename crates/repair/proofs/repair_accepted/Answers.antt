-- `repair_accepted` meets its contract: each way out has decided the tests up to its own, and the last one has searched
-- and cleared.
use Prim.Native.Nat.{ℕ, ◌≤◌}
use mathlib.Core.Path.{◌≡◌, sym, ap, subst, ◌∙◌}
use mathlib.Core.List.{List, ◌++◌}
use native.Mathlib.Omega.{arith}
use lib.ListN.{length, take, drop, replicate}
use lib.Seq.{length-take-le}
use Rattle.std.specs.Prelude.{Ok, Err}
use Rattle.table.specs.declared.refusal.Refusal.TheVariants.{ShortBuffer}
use Rattle.table.specs.Table.{table_of}
use Rattle.table.proofs.Facts.{accepted}
use Rattle.closure.proofs.WordsFit.{words_fit}
use Rattle.search.specs.Answer.{answer_of}
use Rattle.search.specs.TableSearch.{search_under}
use Rattle.walk.specs.KeptWords.{room_total}
use Rattle.repair.specs.Effect.{written_after}
use Rattle.repair.proofs.Cleared.{front_filled, lent_filled}
use Rattle.repair.proofs.Order.{short_list, short_bytes, short_words, long_enough, left}
use Rattle.repair.proofs.repair_accepted.Goals as goal

pub returns-then-list-e : goal.returns-then-list-e
returns-then-list-e c =
    let a = c.args in
    let t = a.table.now.bytes.now in
    let steps = c.step_count-e.ensures in
    let short = short_list t a.list.now a.bytes.now a.words.now a.table.now.passes (omega (arith, steps)) in
    let done = left t a.cap a.list.now a.bytes.now a.words.now (Err ShortBuffer) short in
    record { value = done.0; list_after = done.1.0; bytes_after = done.1.1.0; words_after = done.1.1.1 }

pub returns-then-bytes-v : goal.returns-then-bytes-v
returns-then-bytes-v c =
    let a = c.args in
    let t = a.table.now.bytes.now in
    let steps = c.step_count-e.ensures in
    let v = c.variable_count-v.ensures.formula in
    let short = short_bytes t a.list.now a.bytes.now a.words.now a.table.now.passes
    (omega (arith, steps)) (omega (arith, v)) in
    let done = left t a.cap a.list.now a.bytes.now a.words.now (Err ShortBuffer) short in
    record { value = done.0; list_after = done.1.0; bytes_after = done.1.1.0; words_after = done.1.1.1 }

pub returns-then-words-v : goal.returns-then-words-v
returns-then-words-v c =
    let a = c.args in
    let t = a.table.now.bytes.now in
    let steps = c.step_count-e.ensures in
    let v = c.variable_count-v.ensures.formula in
    let short = short_words t a.list.now a.bytes.now a.words.now a.table.now.passes
    (omega (arith, steps)) (omega (arith, v)) (omega (arith, v)) in
    let done = left t a.cap a.list.now a.bytes.now a.words.now (Err ShortBuffer) short in
    record { value = done.0; list_after = done.1.0; bytes_after = done.1.1.0; words_after = done.1.1.1 }

-- the first V words have room for a closure
pub run-answer-requires-clause-words_room : goal.run-answer-requires-clause-words_room
run-answer-requires-clause-words_room c =
    let table = c.args.table.now.bytes.now in
    let lent : List ℕ = take c.variable_count-v.result c.args.words.now in
    let fit = words_fit (table_of table) (accepted table c.args.table.now.passes).table in
    let part = length-take-le c.variable_count-v.result c.args.words.now (omega arith) in
    let v = c.variable_count-v.ensures.formula in
    let room : room_total (table_of table) ≤ length lent = omega (arith, fit, part, v) in
    subst (λ (b : List ℕ). room_total (table_of b) ≤ length lent) (sym c.new-net.ensures) room

pub returns : goal.returns
returns c =
    let a = c.args in
    let t = a.table.now.bytes.now in
    let k = c.variable_count-v.result in
    let v = c.variable_count-v.ensures.formula in
    let steps = c.step_count-e.ensures in
    let same = c.new-net.ensures in
    let ran = c.run-answer in
    let fits = long_enough t a.list.now a.bytes.now a.words.now a.table.now.passes
    (omega (arith, steps)) (omega (arith, v)) (omega (arith, v)) in
    let done = left t a.cap a.list.now a.bytes.now a.words.now (Ok tt) fits in
    let bytes : c.fill.new.self ≡ replicate (length (take k a.bytes.now)) 0 = c.fill.ensures.after (λ y same. same) in
    let lent : List ℕ = ran.new.words ++ drop k a.words.now in
    let words : c.fill-2.new.self ≡ replicate (length (take k lent)) 0 = c.fill-2.ensures.after (λ y same. same) in
    record {
      value = ran.ensures.value ∙ ap (λ (l : List ℕ). answer_of (search_under (table_of l) a.cap)) same ∙ done.0;
      list_after =
          ran.ensures.list_after
          ∙ ap (λ (l : List ℕ). written_after (table_of l) (search_under (table_of l) a.cap) a.list.now) same
          ∙ done.1.0;
      bytes_after = front_filled k _ a.bytes.now c.fill.new.self v (omega (arith, v)) bytes ∙ done.1.1.0;
      words_after =
          lent_filled k _ a.words.now ran.new.words c.fill-2.new.self v (omega (arith, v)) ran.auto.words words
          ∙ done.1.1.1;
    }
