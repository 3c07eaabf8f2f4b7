-- What Repair answers and leaves.
use Prim.Native.Nat.{ℕ}
use mathlib.Core.Path.{◌≡◌, refl, sym, subst}
use mathlib.Core.List.{List}
use native.Mathlib.Omega.{arith}
use mathlib.Core.Logic.{◌↔◌}
use lib.ListN.{length, take}
use lib.Seq.{get_or-take, length-take-le}
use Rattle.std.specs.Prelude.{Ok, Err}
use Rattle.table.specs.Verdict.{Verdict}
use Rattle.table.specs.Buffer.{on_accepted, Written}
use Rattle.table.specs.Table.{Table, table_of}
use Rattle.search.specs.Search.{Outcome, found, none, spent}
use Rattle.search.specs.TableSearch.{search_under}
use Rattle.search.specs.declared.answer.Answer.{Answer}
use Rattle.search.specs.declared.answer.Answer.TheVariants.{Found, None, Spent, Refused}
use Rattle.search.specs.Answer.{IsFound, IfFound, IfRefused}
use Rattle.repair.specs.Effect.{
  repair_verdict,
  answer_at,
  written_after,
  repair_answer,
  repair_list,
  repair_bytes,
  repair_words,
}
use Rattle.repair.specs.Right.{LongEnough, FoundList}
use Rattle.repair.proofs.Order.{Left}
use Rattle.repair.proofs.Refusals.{refused_right, refused_leaves, answered_just, cleared_front}
use Rattle.repair.proofs.Right.{every_repair_is_right}
use Rattle.fitter.specs.LentMemory.{RepairLeaves}

-- what is not found leaves the list
stays : (T : Table) (list : List ℕ) (v : Verdict) (o : Outcome) → (¬ IsFound (answer_at v o))
    → on_accepted v (written_after T o list) list ≡ list
stays T list (Ok tt) (found m p c k) missed = absurd (missed tt)
stays T list (Ok tt) (none c k) missed = refl
stays T list (Ok tt) (spent c k) missed = refl
stays T list (Err r) o missed = refl

module _ (table : List ℕ) (cap : ℕ) (list bytes words : List ℕ) where
  abbrev T : Table
  T = table_of table

  abbrev answer : Answer
  answer = repair_answer table cap list bytes words

  abbrev list' : List ℕ
  list' = repair_list table cap list bytes words

  abbrev bytes' : List ℕ
  bytes' = repair_bytes table cap list bytes words

  abbrev words' : List ℕ
  words' = repair_words table cap list bytes words

  done : Left table cap list bytes words answer list' bytes' words'
  done = (refl, (refl, (refl, refl)))

  just : IfRefused answer (λ r. ⊥) ↔ LongEnough table list bytes words
  just = answered_just table cap list bytes words answer list' bytes' words' done

  abbrev Wrote : ℕ → Type 0
  Wrote price = (written : List ℕ) × FoundList T price written × Written written list list'

  -- the bytes of the steps are what is found
  wrote : (p c k : ℕ) → answer ≡ Found p c k → Wrote p
  wrote p c k e =
      let long = just.0 (subst (λ (a : Answer). IfRefused a (λ r. ⊥)) (sym e) tt) in
      let right = every_repair_is_right table cap list bytes words long in
      let front = take (length T.steps) list' in
      let size : length front ≡ length T.steps =
      length-take-le (length T.steps) list' (omega (arith, right.rest_stays.0, long.list_long)) in (
        front,
        subst (λ (a : Answer). IfFound a (λ price. FoundList T price front)) e right.cheapest,
        record {
          size = right.rest_stays.0;
          front = λ j h. sym (get_or-take (length T.steps) list' j 0 (omega (arith, h, size)));
          rest = λ j h. right.rest_stays.1 j (omega (arith, h, size));
        },
      )

  by_answer : (a : Answer) → answer ≡ a → IfFound a Wrote
  by_answer (Found p c k) e = wrote p c k e
  by_answer (None c k) e = tt
  by_answer (Spent c k) e = tt
  by_answer (Refused r) e = tt

  pub repair_leaves : RepairLeaves table cap answer list bytes words list' bytes' words'
  repair_leaves = record {
    refused = refused_right table cap list bytes words answer list' bytes' words' done;
    untouched = refused_leaves table cap list bytes words answer list' bytes' words' done;
    answered = just;
    found = by_answer answer refl;
    list_stays = stays T list (repair_verdict table list bytes words) (search_under T cap);
    cleared = cleared_front table cap list bytes words answer list' bytes' words' done;
  }
