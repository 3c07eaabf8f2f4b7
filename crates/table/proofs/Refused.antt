-- What the verdict on bytes says of them: it accepts exactly a table, and each refusal is given for what it names.
use Prim.Native.Nat.{ℕ, ◌≤◌, ◌<◌}
use mathlib.Core.Path.{◌≡◌, refl, sym, subst, ◌∙◌}
use mathlib.Core.Logic.{◌↔◌, inl, inr}
use mathlib.Core.Bool.{true, ◌&&◌}
use mathlib.Core.List.{List}
use native.Mathlib.Omega.{arith}
use lib.Dec.{leb, eqb}
use lib.ListN.{length, get_or}
use Rattle.std.specs.Prelude.{Ok, Err}
use Rattle.table.specs.declared.refusal.Refusal.{Refusal}
use Rattle.table.specs.declared.refusal.Refusal.TheVariants.{
  Length,
  Counts as CountsRefused,
  StateRecord,
  NoInitial,
  StepEnd,
  RepeatedStep,
  NodeRecord,
  ListForm,
}
use Rattle.table.specs.Verdict.{Verdict, require}
use Rattle.table.specs.Table.{Table, table_of, counts_of, packed_length, header_width, is_initial}
use Rattle.table.specs.Accept.{
  all,
  any,
  distinct,
  counts_fit,
  state_fits,
  step_fits,
  nodes_fit,
  states_verdict,
  steps_verdict,
  records_verdict,
  table_verdict,
  list_verdict,
}
use Rattle.table.specs.Facts.{IsTable, NoStepTwice, NodesFit}
use Rattle.table.specs.Refused.{CountsFit, RightLength, StatesFit, SomeInitial, EndsAreStates, TableRefused}
use Rattle.table.proofs.Verdicts.{accepted_then, accepted_require, require_accepted, then_assoc, first_test, last_test}
use Rattle.table.proofs.Decided.{
  rule_fails,
  both,
  all_decided,
  at_most_decided,
  same_decided,
  counts_decided,
  states_decided,
  initial_decided,
  ends_decided,
  distinct_decided,
  nodes_decided,
}
use Rattle.table.proofs.Facts.{header_accepted, accepted, states_are, steps_are, nodes_are}

module _ (bytes : List ℕ) where
  -- records that keep each rule are accepted
  records_pass : (T : Table) → StatesFit T → SomeInitial T → EndsAreStates T → NoStepTwice T → NodesFit T
      → records_verdict T ≡ Ok tt
  records_pass T states initial ends once nodes =
      accepted_then (states_verdict T.props T.states) _
      (accepted_then _ _ (accepted_require _ _ ((states_decided T).1 states))
      (accepted_require _ _ ((initial_decided T).1 initial)))
      (accepted_then (steps_verdict (length T.states) T.steps) _
      (accepted_then _ _ (accepted_require _ _ ((ends_decided T).1 ends))
      (accepted_require _ _ ((distinct_decided T).1 once)))
      (accepted_require _ _ ((nodes_decided T).1 nodes)))

  there : table_verdict bytes ≡ Ok tt → IsTable bytes
  there v =
      let t = header_accepted bytes v in
      record { header = omega (arith, t.1); whole = t.1; wellformed = (accepted bytes v).table }

  counts_of_table : IsTable bytes → CountsFit (counts_of bytes)
  counts_of_table t =
      let w = t.wellformed in
      record {
        some_state = rw (states_are bytes _ refl) w.some_state;
        few_states = rw (states_are bytes _ refl) w.few_states;
        few_steps = rw (steps_are bytes _ refl) w.few_steps;
        some_node = rw (nodes_are bytes _ refl) w.some_node;
        few_nodes = rw (nodes_are bytes _ refl) w.few_nodes;
        few_props = w.few_props;
      }

  back : IsTable bytes → table_verdict bytes ≡ Ok tt
  unfolding table_verdict
  back t =
      let w = t.wellformed in
      let records = records_pass (table_of bytes) (λ s h. (w.initial_bit s h, w.label_below s h)) w.some_initial
      (λ j h. (w.from_state j h, w.to_state j h)) w.no_repeat w.each_node_fits in
      accepted_then _ _ (accepted_require Length _ ((at_most_decided header_width (length bytes)).1 t.header))
      (accepted_then _ _ (accepted_require CountsRefused _ ((counts_decided (counts_of bytes)).1 (counts_of_table t)))
      (accepted_then _ _ (accepted_require Length _
      ((same_decided (length bytes) (packed_length (counts_of bytes))).1 t.whole)) records))

  pub is_table : (table_verdict bytes ≡ Ok tt) ↔ IsTable bytes
  is_table = (there, back)

  -- of bytes of the right length each refusal is that of a test of the records
  records_refused : RightLength bytes → (r : Refusal) → records_verdict (table_of bytes) ≡ Err r → TableRefused bytes r
  records_refused right r e =
      let T = table_of bytes in
      let states = all (state_fits T.props) T.states in
      let initial = any is_initial T.states in
      let ends = all (step_fits (length T.states)) T.steps in
      let once = distinct T.steps in
      let split = sym (then_assoc (require StateRecord states) (require NoInitial initial) _) ∙ e in
      first_test StateRecord r states _ split
      (λ f s. subst (TableRefused bytes) s (right, rule_fails states (states_decided T) f))
      (λ t1 e1. let fit = (states_decided T).0 t1 in first_test NoInitial r initial _ e1
      (λ f s. subst (TableRefused bytes) s (right, fit, rule_fails initial (initial_decided T) f))
      (λ t2 e2. let some = (initial_decided T).0 t2 in first_test StepEnd r ends _
      (sym (then_assoc (require StepEnd ends) (require RepeatedStep once) _) ∙ e2)
      (λ f s. subst (TableRefused bytes) s (right, fit, some, rule_fails ends (ends_decided T) f))
      (λ t3 e3. let inside = (ends_decided T).0 t3 in first_test RepeatedStep r once _ e3
      (λ f s. subst (TableRefused bytes) s (right, fit, some, inside, rule_fails once (distinct_decided T) f))
      (λ t4 e4. let last = last_test NodeRecord r (nodes_fit T.props 0 T.nodes) e4 in
      subst (TableRefused bytes) last.1
      (right, fit, some, inside, (distinct_decided T).0 t4, rule_fails _ (nodes_decided T) last.0)))))

  -- of bytes of the right length the verdict is that of the records
  pub right_verdict : RightLength bytes → table_verdict bytes ≡ records_verdict (table_of bytes)
  unfolding table_verdict
  right_verdict right =
      simp (
        (at_most_decided header_width (length bytes)).1 right.header,
        (counts_decided (counts_of bytes)).1 right.counts,
        (same_decided (length bytes) (packed_length (counts_of bytes))).1 right.whole,
      )

  pub table_refused : (r : Refusal) → table_verdict bytes ≡ Err r → TableRefused bytes r
  unfolding table_verdict
  table_refused r e =
      let long = leb header_width (length bytes) in
      let fits = counts_fit (counts_of bytes) in
      let whole = eqb (length bytes) (packed_length (counts_of bytes)) in
      first_test Length r long _ e
      (λ f s. subst (TableRefused bytes) s
      (inl (let short : ¬ (header_width ≤ length bytes) =
      rule_fails long (at_most_decided header_width (length bytes)) f in omega (arith, short))))
      (λ t1 e1. let header = (at_most_decided header_width (length bytes)).0 t1 in first_test CountsRefused r fits _ e1
      (λ f s. subst (TableRefused bytes) s (header, rule_fails fits (counts_decided (counts_of bytes)) f))
      (λ t2 e2. let counts = (counts_decided (counts_of bytes)).0 t2 in first_test Length r whole _ e2
      (λ f s. subst (TableRefused bytes) s
      (inr (header, counts, rule_fails whole (same_decided (length bytes) (packed_length (counts_of bytes))) f)))
      (λ t3 e3. records_refused
      (record {
        header = header;
        counts = counts;
        whole =
            (same_decided (length bytes) (packed_length (counts_of bytes))).0 t3;
      }) r e3)))

-- a list is accepted exactly where it has as many bytes as there are steps, each 0 or 1
pub list_accepts : (e : ℕ) (list : List ℕ) (v : Verdict) → v ≡ list_verdict e list
    → (v ≡ Ok tt) ↔ ((length list ≡ e) × ((j : ℕ) → j < length list → get_or list j 0 ≤ 1))
unfolding list_verdict
list_accepts e list v here =
    (λ a. rule.0 (require_accepted _ _ (sym here ∙ a)), λ h. here ∙ accepted_require ListForm _ (rule.1 h))
  where
    rule : (eqb (length list) e && all (λ b. leb b 1) list ≡ true)
        ↔ ((length list ≡ e) × ((j : ℕ) → j < length list → get_or list j 0 ≤ 1))
    rule = both (eqb (length list) e) (all (λ b. leb b 1) list) (same_decided (length list) e)
        (all_decided (λ b. leb b 1) (λ b. b ≤ 1) (λ b. at_most_decided b 1) list 0)
