-- Holding's bytes are the kept states at which the root holds, in reading order, and a refusal leaves the buffer as
-- it was.
use Prim.Native.Nat.{ℕ}
use mathlib.Core.Path.{◌≡◌, refl, sym, ap, subst, ◌∙◌}
use mathlib.Core.Bool.{true, false≢true}
use mathlib.Core.Logic.{◌↔◌}
use mathlib.Core.Logic.Iff
use mathlib.Core.List.{List, ◌++◌}
use native.Mathlib.Omega.{arith}
use borrow.Author.Tests.{leb-true}
use lib.ListN.{length, drop}
use Rattle.std.specs.Prelude.{Result, Ok, Err, IsOk, IfOk, IfErr, OnErr}
use Rattle.table.specs.declared.refusal.Refusal.{Refusal}
use Rattle.table.specs.Verdict.{Verdict}
use Rattle.table.specs.Table.{Table, table_of}
use Rattle.table.specs.Facts.{Wellformed}
use Rattle.table.specs.Buffer.{on_accepted, Written}
use Rattle.table.proofs.Facts.{accepted}
use Rattle.table.proofs.Buffer.{front_written}
use Rattle.table.proofs.Verdicts.{refused}
use Rattle.ctl.specs.Rule.{root_index}
use Rattle.ctl.specs.Kept.{Total}
use Rattle.ctl.specs.Labels.{marked}
use Rattle.ctl.specs.Refused.{ListRefused}
use Rattle.ctl.proofs.Meaning.{labels_are_meaning}
use Rattle.ctl.proofs.Repair.{is-total}
use Rattle.label.specs.Calls.{held_states, holding_verdict, holding_at, holding_answer, holding_buffer}
use Rattle.label.specs.TotalWithRoom.{TotalWithRoom}
use Rattle.label.specs.Exact.{RootHolds, RootStates, HoldingIsExact}
use Rattle.label.proofs.Held.{held_in_order, held_once, held-member, held_few, held-only}
use Rattle.label.proofs.Order.{table_accepted, room_accepted, total_accepted}
use Rattle.label.proofs.Tests.{tests_pass, tests_refuse}

module _ (T : Table) (wf : Wellformed T) (list : List ℕ) (total : Total T list) where
  -- what the root marks are the kept states at which it holds
  root_means : (s : ℕ) → (marked T list (root_index T) s ≡ true) ↔ RootHolds T list s
  root_means = labels_are_meaning T wf list total (root_index T) (omega (arith, wf.some_node))

  pub held_are : RootStates T list (held_states T list)
  held_are = record {
    each_once = record { each = λ s. Iff.trans (held-member T wf list s) (root_means s); once = held_once T list };
    in_order = held_in_order T list;
  }

  pub held_alone : (others : List ℕ) → RootStates T list others → others ≡ held_states T list
  held_alone others r =
      held-only T wf list others (λ s. Iff.trans (r.each_once.each s) (Iff.symm (root_means s))) r.in_order

module _ (table list before after : List ℕ) (now : after ≡ holding_buffer table list before) where
  abbrev T : Table
  T = table_of table

  abbrev held : List ℕ
  held = held_states T list

  abbrev verdict : Verdict
  verdict = holding_verdict table list (length before)

  held_after : (v : Verdict) → verdict ≡ v → after ≡ on_accepted v (held ++ drop (length held) before) before
  held_after v e = now ∙ ap (λ (w : Verdict). on_accepted w (held ++ drop (length held) before) before) e

  exact : verdict ≡ Ok tt → (count : ℕ) → length held ≡ count → HoldingIsExact T list count before after
  exact ok count counted =
      let wf = (accepted table (table_accepted _ table list ok)).table in
      let total = (is-total T list).0 (total_accepted _ table list ok) in
      let room = leb-true (length T.states) (length before) (room_accepted _ table list ok) in
      let few = held_few T wf list in
      record {
        states = held;
        theirs = held_are T wf list total;
        only = held_alone T wf list total;
        counted = counted;
        written = subst (λ (after : List ℕ). Written held before after) (sym (held_after (Ok tt) ok))
            (front_written held before (length held) refl (omega (arith, room, few)));
      }

  -- by the verdict, of the answer that it makes
  passes_at : (v : Verdict) → verdict ≡ v
      → IsOk (holding_at v (length held)) ↔ TotalWithRoom table list (length T.states) (length before)
  passes_at (Ok tt) is = (λ told. (tests_pass (length T.states) (length before) table list).0 is, λ h. refl)
  passes_at (Err r) is = (
    λ told. absurd (false≢true told),
    λ h. absurd (refused r (sym is ∙ (tests_pass (length T.states) (length before) table list).1 h)),
  )

  refuses_at : (v : Verdict) → verdict ≡ v
      → IfErr (holding_at v (length held)) (ListRefused (length T.states) (length before) table list)
  refuses_at (Ok tt) is = tt
  refuses_at (Err r) is = tests_refuse (length T.states) (length before) table list r is

  holds_at : (v : Verdict) → verdict ≡ v
      → IfOk (holding_at v (length held)) (λ count. HoldingIsExact T list count before after)
  holds_at (Ok tt) is = exact is (length held) refl
  holds_at (Err r) is = tt

  untouched_at : (v : Verdict) → verdict ≡ v → OnErr (holding_at v (length held)) (after ≡ before)
  untouched_at (Ok tt) is = tt
  untouched_at (Err r) is = held_after (Err r) is

  -- of an answer that is this one
  module _ (answer : Result ℕ Refusal) (told : answer ≡ holding_answer table list (length before)) where
    pub holding_passes : IsOk answer ↔ TotalWithRoom table list (length T.states) (length before)
    holding_passes = rw told (passes_at verdict refl)

    pub holding_refuses : IfErr answer (ListRefused (length T.states) (length before) table list)
    holding_refuses = rw told (refuses_at verdict refl)

    pub holding_holds : IfOk answer (λ count. HoldingIsExact T list count before after)
    holding_holds = rw told (holds_at verdict refl)

    pub holding_untouched : OnErr answer (after ≡ before)
    holding_untouched = rw told (untouched_at verdict refl)
