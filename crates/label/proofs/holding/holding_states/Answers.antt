-- `holding_states` meets its contract: a refusal writes nothing, and an accepted list has the states of the root's set.
use Prim.Native.Nat.{ℕ}
use mathlib.Core.Path.{◌≡◌, sym, ap, ◌∙◌}
use mathlib.Core.List.{List, ◌++◌}
use native.Mathlib.Omega.{arith}
use lib.ListN.{length, drop}
use Rattle.std.proofs.Common.{rules}
use Rattle.std.specs.Prelude.{Result, Ok, Err}
use Rattle.sets.specs.Member.{member, count_of}
use Rattle.sets.proofs.SetOf.{member-set_of-below, count_of_cong}
use Rattle.table.specs.declared.refusal.Refusal.{Refusal}
use Rattle.table.specs.Verdict.{Verdict}
use Rattle.table.specs.Table.{Table, table_of, initial_at}
use Rattle.table.specs.Buffer.{on_accepted}
use Rattle.table.proofs.Facts.{accepted}
use Rattle.ctl.specs.Rule.{root_index}
use Rattle.ctl.specs.Labels.{marked}
use Rattle.label.specs.declared.analysis.Analysis.{Analysis}
use Rattle.label.specs.Analysis.{sets_of}
use Rattle.label.specs.ReadingOrder.{reading_order, states_with}
use Rattle.label.specs.Calls.{held_states, holding_verdict, holding_at, holding_answer, holding_buffer}
use Rattle.label.specs.declared.room.Room.TheVariants.{States}
use Rattle.label.proofs.Order.{table_refused_first, table_accepted, room_accepted}
use Rattle.label.proofs.Ways.{analysis_moved, way_refused, way_passed}
use borrow.Author.Tests.{leb-true}
use Rattle.label.proofs.ReadingOrder.{order_cong}
use Rattle.label.proofs.Held.{held_count, held_few}
use Rattle.label.proofs.HeldExact.{holding_passes, holding_refuses, holding_holds, holding_untouched}
use Rattle.label.proofs.holding.holding_states.Goals as goal

module _ (table list out : List ℕ) (v : Verdict) (e : holding_verdict table list (length out) ≡ v) where
  -- the answer and what the buffer holds, by the verdict
  answer_at : ◌≡◌ {A = Result ℕ Refusal} (holding_at v (length (held_states (table_of table) list)))
      (holding_answer table list (length out))
  answer_at = sym (ap (λ (w : Verdict). holding_at w (length (held_states (table_of table) list))) e)

  buffer_at : on_accepted v (held_states (table_of table) list ++ drop (length (held_states (table_of table) list)) out)
      out ≡ holding_buffer table list out
  buffer_at =
      sym (ap (λ (w : Verdict). on_accepted w
      (held_states (table_of table) list ++ drop (length (held_states (table_of table) list)) out) out) e)

module _ (T : Table) (list : List ℕ) (a : Analysis) (e : a ≡ sets_of T list) where
  states_are : states_with (reading_order (member a.initial)) (member a.root) ≡ held_states T list
  states_are =
      ap (λ (x : Analysis). states_with (reading_order (member x.initial)) (member x.root)) e
      ∙ order_cong _ _ _ _ (member-set_of-below 32 (initial_at T))
      (member-set_of-below 32 (marked T list (root_index T)))

  count_is : count_of 32 (member a.root) ≡ length (held_states T list)
  count_is =
      ap (λ (x : Analysis). count_of 32 (member x.root)) e
      ∙ count_of_cong 32 _ _ (member-set_of-below 32 (marked T list (root_index T)))
      ∙ sym (held_count T list)

pub returns-in_err-table : goal.returns-in_err-table
returns-in_err-table c =
    let t = c.args.table.now in
    let l = c.args.list.now in
    let out = c.args.out.now in
    let r = c.in_err-table.field-0.0 in
    let gives : c.from_residual.result ≡ Err r = search rules in
    let refused = table_refused_first _ t l r c.in_err-table.ensures.0 in
    let told = gives ∙ answer_at t l out (Err r) refused in
    let left = buffer_at t l out (Err r) refused in
    record {
      value = told;
      out_after = left;
      accepted = holding_passes t l out out left _ told;
      refused = holding_refuses t l out out left _ told;
      states = holding_holds t l out out left _ told;
      untouched = holding_untouched t l out out left _ told;
    }

pub returns-in_err-a : goal.returns-in_err-a
returns-in_err-a c =
    let t = c.args.table.now in
    let l = c.args.list.now in
    let out = c.args.out.now in
    let r = c.in_err-a.field-0.0 in
    let gives : c.from_residual-in_err-a.result ≡ Err r = search rules in
    let refused = way_refused (States (length out)) t l r
    (sym c.in_err-a.was ∙ analysis_moved (States (length out)) l _ t c.in_ok-table.ensures.0 _ c.analyse.ensures) in
    let told = gives ∙ answer_at t l out (Err r) refused in
    let left = buffer_at t l out (Err r) refused in
    record {
      value = told;
      out_after = left;
      accepted = holding_passes t l out out left _ told;
      refused = holding_refuses t l out out left _ told;
      states = holding_holds t l out out left _ told;
      untouched = holding_untouched t l out out left _ told;
    }

pub write_states-requires : goal.write_states-requires
write_states-requires c =
    let t = c.args.table.now in
    let l = c.args.list.now in
    let out = c.args.out.now in
    let way = way_passed (States (length out)) t l c.in_ok-a.a
    (sym c.in_ok-a.was ∙ analysis_moved (States (length out)) l _ t c.in_ok-table.ensures.0 _ c.analyse.ensures) in
    let few = held_few (table_of t) (accepted t (table_accepted _ t l way.0)).table l in
    let fits = leb-true (length (table_of t).states) (length out) (room_accepted _ t l way.0) in
    omega (arith, ap length (states_are (table_of t) l c.in_ok-a.a way.1), few, fits)

pub returns : goal.returns
returns c =
    let t = c.args.table.now in
    let l = c.args.list.now in
    let out = c.args.out.now in
    let way = way_passed (States (length out)) t l c.in_ok-a.a
    (sym c.in_ok-a.was ∙ analysis_moved (States (length out)) l _ t c.in_ok-table.ensures.0 _ c.analyse.ensures) in
    let told : ◌≡◌ {A = Result ℕ Refusal} (Ok c.count.result) (holding_answer t l (length out)) =
    ap (λ (k : ℕ). Ok k) (c.count.ensures ∙ count_is (table_of t) l c.in_ok-a.a way.1)
    ∙ answer_at t l out (Ok tt) way.0 in
    let left = c.write_states.ensures
    ∙ ap (λ (xs : List ℕ). xs ++ drop (length xs) out) (states_are (table_of t) l c.in_ok-a.a way.1)
    ∙ buffer_at t l out (Ok tt) way.0 in
    record {
      value = told;
      out_after = left;
      accepted = holding_passes t l out _ left _ told;
      refused = tt;
      states = holding_holds t l out _ left _ told;
      untouched = tt;
    }
