-- `repair` meets its contract: a refused table leaves all as it was, and an accepted one is left to `repair_accepted`.
use mathlib.Core.Path.{subst}
use Prim.Native.Nat.{ℕ}
use mathlib.Core.List.{List}
use Rattle.std.specs.Prelude.{Err}
use Rattle.repair.proofs.Order.{Left, left, table_refused}
use Rattle.repair.proofs.Refusals.{refused_right, refused_leaves, answered_just, cleared_front}
use Rattle.repair.proofs.Right.{repair_right}
use Rattle.repair.proofs.repair.Goals as goal

pub returns-in-Ok : goal.returns-in-Ok
returns-in-Ok c =
    let a = c.args in
    let call = c.repair_accepted in
    let e = call.ensures in
    let new = call.new in
    let done = subst
    (λ (t : List ℕ). Left t a.cap a.list.now a.bytes.now a.words.now call.result new.list new.bytes new.words)
    c.in-Ok.ensures.0 (e.value, (e.list_after, (e.bytes_after, e.words_after))) in
    record {
      value = done.0;
      list_after = done.1.0;
      bytes_after = done.1.1.0;
      words_after = done.1.1.1;
      refused = refused_right a.table.now a.cap a.list.now a.bytes.now a.words.now _ _ _ _ done;
      untouched = refused_leaves a.table.now a.cap a.list.now a.bytes.now a.words.now _ _ _ _ done;
      answered = answered_just a.table.now a.cap a.list.now a.bytes.now a.words.now _ _ _ _ done;
      right = repair_right a.table.now a.cap a.list.now a.bytes.now a.words.now _ _ _ _ done;
      cleared = cleared_front a.table.now a.cap a.list.now a.bytes.now a.words.now _ _ _ _ done;
    }

pub returns-in-Err : goal.returns-in-Err
returns-in-Err c =
    let a = c.args in
    let r = c.in-Err.refusal in
    let done = left a.table.now a.cap a.list.now a.bytes.now a.words.now (Err r)
    (table_refused a.table.now a.list.now a.bytes.now a.words.now r c.in-Err.ensures.0) in
    record {
      value = done.0;
      list_after = done.1.0;
      bytes_after = done.1.1.0;
      words_after = done.1.1.1;
      refused = refused_right a.table.now a.cap a.list.now a.bytes.now a.words.now _ _ _ _ done;
      untouched = refused_leaves a.table.now a.cap a.list.now a.bytes.now a.words.now _ _ _ _ done;
      answered = answered_just a.table.now a.cap a.list.now a.bytes.now a.words.now _ _ _ _ done;
      right = repair_right a.table.now a.cap a.list.now a.bytes.now a.words.now _ _ _ _ done;
      cleared = cleared_front a.table.now a.cap a.list.now a.bytes.now a.words.now _ _ _ _ done;
    }
