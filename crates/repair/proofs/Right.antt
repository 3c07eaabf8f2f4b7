-- What Repair promises of a table and long enough buffers, by what the search promises.
use Prim.Native.Nat.{ℕ, ◌≤◌, ◌<◌}
use mathlib.Core.Path.{◌≡◌, refl, sym, ap, subst, ◌∙◌}
use mathlib.Core.List.{List, []}
use native.Mathlib.Omega.{arith}
use lib.ListN.{length, take, drop}
use lib.Seq.{take_at}
use Rattle.std.specs.Prelude.{Ok, Some}
use Rattle.table.specs.Verdict.{Verdict}
use Rattle.table.specs.Buffer.{on_accepted}
use Rattle.table.specs.Table.{Table, table_of}
use Rattle.table.specs.Accept.{table_verdict}
use Rattle.table.specs.Facts.{Wellformed}
use Rattle.table.proofs.Facts.{accepted}
use Rattle.table.proofs.Buffer.{front_written}
use Rattle.table.proofs.Refused.{is_table}
use Rattle.ctl.specs.Kept.{Repair}
use Rattle.ctl.specs.Reached.{strike}
use Rattle.ctl.specs.Price.{list_price}
use Rattle.ctl.specs.Rank.{Cheapest}
use Rattle.ctl.specs.Tests.{judge_verdict}
use Rattle.ctl.proofs.Repair.{judge_accepts_repairs}
use Rattle.ctl.proofs.Strike.{strike-length, strike-is_exact, striking_narrows, senses_agree}
use Rattle.closure.specs.Computed.{Marks}
use Rattle.closure.specs.Settled.{SettledCount}
use Rattle.search.specs.declared.answer.Answer.{Answer}
use Rattle.search.specs.Answer.{answer_of}
use Rattle.search.specs.Search.{Outcome, found, none, spent}
use Rattle.search.specs.TableSearch.{search_under, search_free, list_of}
use Rattle.search.specs.Right.{choices, settled, SearchIsRight}
use Rattle.search.proofs.Right.{search_is_right}
use Rattle.search.proofs.UnderCap.{under_cap, same_settled}
use Rattle.repair.specs.Effect.{written_after, answer_at, repair_answer}
use Rattle.repair.specs.Right.{LongEnough, FoundList, RepairIsRight, EveryRepairIsRight}
use Rattle.repair.proofs.Order.{Left}
use Rattle.repair.proofs.Refusals.{fits}

-- two things that are not the same outcome
found_none : (m : Marks) (p c k d l : ℕ) → found m p c k ≡ none d l → ⊥
found_none m p c k d l e = absurd (let z : ◌≡◌ {A = ℕ} 0 1 = cc in omega arith)

found_spent : (m : Marks) (p c k d l : ℕ) → found m p c k ≡ spent d l → ⊥
found_spent m p c k d l e = absurd (let z : ◌≡◌ {A = ℕ} 0 1 = cc in omega arith)

none_spent : (c k d l : ℕ) → none c k ≡ spent d l → ⊥
none_spent c k d l e = absurd (let z : ◌≡◌ {A = ℕ} 0 1 = cc in omega arith)

module _ (table : List ℕ) (cap : ℕ) (ok : table_verdict table ≡ Ok tt) where
  abbrev T : Table
  T = table_of table

  wf : Wellformed T
  wf = (accepted table ok).table

  right : SearchIsRight T
  right = search_is_right T wf

  -- what is found under the cap is found without one
  found_free : (m : Marks) (p c k : ℕ) → search_under T cap ≡ found m p c k → search_free T ≡ found m p c k
  found_free m p c k =
      under_cap T wf cap (λ o. o ≡ found m p c k → search_free T ≡ found m p c k)
      (λ over e. absurd (found_spent m p c k _ _ (sym e))) (λ h e. e)

  -- none too
  none_free : (c k : ℕ) → search_under T cap ≡ none c k → search_free T ≡ none c k
  none_free c k =
      under_cap T wf cap (λ o. o ≡ none c k → search_free T ≡ none c k)
      (λ over e. absurd (none_spent c k _ _ (sym e))) (λ h e. e)

  -- and it is spent only where the one without makes more choices
  spent_over : (c k : ℕ) → search_under T cap ≡ spent c k → cap < choices (search_free T)
  spent_over c k =
      under_cap T wf cap (λ o. o ≡ spent c k → cap < choices (search_free T)) (λ over e. over)
      (λ h e. absurd (right.unspent c k e))

  carried : (o : Outcome) → search_under T cap ≡ o → SettledCount T [] (settled o)
  carried o e =
      subst (λ (k : ℕ). SettledCount T [] k)
      (sym (ap settled (sym e) ∙ same_settled T wf cap)) right.settled_exact

  -- the list that is found, as the bytes of the steps have it
  module _ (m : Marks) (p c k : ℕ) (e : search_under T cap ≡ found m p c k) (list : List ℕ) where
    abbrev after : List ℕ
    after = written_after T (found m p c k) list

    front : take (length T.steps) after ≡ strike T (list_of T m)
    front = take_at (strike T (list_of T m)) (drop (length T.steps) list) _ (strike-length T (list_of T m))

    cheapest : Cheapest (list_price T) (Repair T) (list_of T m) × (p ≡ list_price T (list_of T m))
    cheapest = right.found_cheapest m p c k (found_free m p c k e)

    repair : Repair T (list_of T m)
    repair = cheapest.0.first.member.0

    listed : FoundList T p (take (length T.steps) after)
    listed = subst (λ (l : List ℕ). FoundList T p l) (sym front) (record {
      chosen = list_of T m;
      cheapest = cheapest.0;
      priced = cheapest.1;
      struck = strike-is_exact T wf (list_of T m);
      narrow = striking_narrows T wf (list_of T m) repair;
    })

    judged : judge_verdict table (take (length T.steps) after) ≡ Ok tt
    judged = (judge_accepts_repairs table _ wf ok).1 listed.narrow

  module _ (list : List ℕ) (long : length T.steps ≤ length list) where
    -- one answer at a time
    right_at : (o : Outcome) → search_under T cap ≡ o
        → RepairIsRight table cap (answer_of o) list (written_after T o list)
    right_at (found m p c k) e = record {
      spent = (λ h. absurd h, λ over. found_spent m p c k _ _ (sym e ∙ right.spent_over cap over));
      none = λ h. (λ n. absurd n, λ no_repair. no_repair _ (repair m p c k e list));
      none_narrow = λ h. (λ n. absurd n, λ no_repair. no_repair _ (listed m p c k e list).narrow);
      found = λ h. (λ f. (list_of T m, repair m p c k e list), λ r. tt);
      cheapest = listed m p c k e list;
      judged = judged m p c k e list;
      counted = ap (λ (o : Outcome). Some (choices o)) (sym e);
      settled = (k, refl, carried (found m p c k) e);
      no_price = λ n. absurd (n tt);
      list_stays = λ n. absurd (n tt);
      rest_stays =
          let size = strike-length T (list_of T m) in
          let w = front_written (strike T (list_of T m)) list (length T.steps) size long in
          (w.size, λ j h. w.rest j (omega (arith, h, size)));
    }
    right_at (none c k) e = record {
      spent = (λ h. absurd h, λ over. none_spent c k _ _ (sym e ∙ right.spent_over cap over));
      none = λ h. (λ n. none_right, λ no_repair. tt);
      none_narrow = λ h. (λ n. (senses_agree T wf).0 none_right, λ no_repair. tt);
      found = λ h. (λ f. absurd f, λ r. absurd (none_right r.0 r.1));
      cheapest = tt;
      judged = tt;
      counted = ap (λ (o : Outcome). Some (choices o)) (sym e);
      settled = (k, refl, carried (none c k) e);
      no_price = λ n. refl;
      list_stays = λ n. refl;
      rest_stays = (refl, λ k h. refl);
    }
      where
        none_right : (l : List ℕ) → ¬ Repair T l
        none_right = right.none_exact.0 (c, k, none_free c k e)
    right_at (spent c k) e = record {
      spent = (λ h. spent_over c k e, λ over. tt);
      none = λ h. absurd (omega (arith, h, spent_over c k e));
      none_narrow = λ h. absurd (omega (arith, h, spent_over c k e));
      found = λ h. absurd (omega (arith, h, spent_over c k e));
      cheapest = tt;
      judged = tt;
      counted = ap (λ (o : Outcome). Some (choices o)) (sym e);
      settled = (k, refl, carried (spent c k) e);
      no_price = λ n. refl;
      list_stays = λ n. refl;
      rest_stays = (refl, λ k h. refl);
    }

pub every_repair_is_right : EveryRepairIsRight
every_repair_is_right table cap list bytes words g =
    let T = table_of table in
    let o = search_under T cap in
    subst (λ (v : Verdict). RepairIsRight table cap (answer_at v o) list (on_accepted v (written_after T o list) list))
    (sym (fits table list bytes words g))
    (right_at table cap ((is_table table).1 g.accepted) list g.list_long o refl)

-- so it is of what is answered and left
pub repair_right : (table : List ℕ) (cap : ℕ) (list bytes words : List ℕ) (answer : Answer)
    → (list' bytes' words' : List ℕ) → Left table cap list bytes words answer list' bytes' words'
    → LongEnough table list bytes words → RepairIsRight table cap answer list list'
repair_right table cap list bytes words answer list' bytes' words' done g =
    subst (λ (a : Answer). RepairIsRight table cap a list list') (sym done.0)
    (subst (λ (l : List ℕ). RepairIsRight table cap (repair_answer table cap list bytes words) list l) (sym done.1.0)
    (every_repair_is_right table cap list bytes words g))
