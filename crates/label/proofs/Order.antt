-- The tests in their order: which verdict comes of which test.
use Prim.Native.Nat.{ℕ}
use mathlib.Core.Path.{◌≡◌, ap, ◌∙◌}
use mathlib.Core.Bool.{Bool, true, false}
use mathlib.Core.List.{List}
use borrow.Author.Tests.{eqb-true}
use lib.ListN.{length}
use Rattle.std.specs.Prelude.{Ok, Err}
use Rattle.table.specs.declared.refusal.Refusal.{Refusal}
use Rattle.table.specs.declared.refusal.Refusal.TheVariants.{ListForm, ShortBuffer, NotTotal}
use Rattle.table.specs.Verdict.{Verdict, require, ◌then◌}
use Rattle.table.specs.Table.{table_of}
use Rattle.table.specs.Accept.{table_verdict, list_verdict}
use Rattle.table.proofs.Bools.{and_parts}
use Rattle.table.proofs.Verdicts.{then_refused, then_next, then_accepted, require_accepted}
use Rattle.ctl.specs.Tests.{is_total}
use Rattle.label.specs.Analysis.{analysis_verdict}

-- a list of the form is as long as the steps
pub form_length : (table list : List ℕ) → list_verdict (length (table_of table).steps) list ≡ Ok tt
    → length list ≡ length (table_of table).steps
unfolding list_verdict
form_length table list ok =
    eqb-true (length list) (length (table_of table).steps) (and_parts _ _ (require_accepted ListForm _ ok)).0

module _ (room : Bool) (table list : List ℕ) where
  abbrev form : Verdict
  form = list_verdict (length (table_of table).steps) list

  -- what is left to test once the list's form is accepted
  abbrev after_form : Verdict
  after_form = require ShortBuffer room then require NotTotal (is_total (table_of table) list)

  pub table_refused_first : (r : Refusal) → table_verdict table ≡ Err r → analysis_verdict room table list ≡ Err r
  unfolding analysis_verdict
  table_refused_first r e = then_refused (table_verdict table) (form then after_form) r e ∙ e

  -- of an accepted table
  module _ (is : table_verdict table ≡ Ok tt) where
    form_first : analysis_verdict room table list ≡ form then after_form
    unfolding analysis_verdict
    form_first = then_next (table_verdict table) (form then after_form) is

    pub form_refused : (r : Refusal) → form ≡ Err r → analysis_verdict room table list ≡ Err r
    form_refused r e = form_first ∙ then_refused form after_form r e ∙ e

    module _ (ok : form ≡ Ok tt) where
      go_on : analysis_verdict room table list ≡ after_form
      go_on = form_first ∙ then_next form after_form ok

      pub room_refused : room ≡ false → analysis_verdict room table list ≡ Err ShortBuffer
      room_refused e =
          go_on ∙ ap (λ (b : Bool). require ShortBuffer b then require NotTotal (is_total (table_of table) list)) e

      pub room_passed : room ≡ true
          → analysis_verdict room table list ≡ require NotTotal (is_total (table_of table) list)
      room_passed e =
          go_on ∙ ap (λ (b : Bool). require ShortBuffer b then require NotTotal (is_total (table_of table) list)) e

-- what accepting tests say
module _ (room : Bool) (table list : List ℕ) (ok : analysis_verdict room table list ≡ Ok tt) where
  parts : (table_verdict table ≡ Ok tt) × (form room table list then after_form room table list ≡ Ok tt)
  unfolding analysis_verdict
  parts = then_accepted (table_verdict table) (form room table list then after_form room table list) ok

  pub table_accepted : table_verdict table ≡ Ok tt
  table_accepted = parts.0

  list_parts : (form room table list ≡ Ok tt) × (after_form room table list ≡ Ok tt)
  list_parts = then_accepted (form room table list) (after_form room table list) parts.1

  pub list_accepted : list_verdict (length (table_of table).steps) list ≡ Ok tt
  list_accepted = list_parts.0

  room_and-total : (require ShortBuffer room ≡ Ok tt) × (require NotTotal (is_total (table_of table) list) ≡ Ok tt)
  room_and-total =
      then_accepted (require ShortBuffer room) (require NotTotal (is_total (table_of table) list)) list_parts.1

  pub room_accepted : room ≡ true
  room_accepted = require_accepted ShortBuffer room room_and-total.0

  pub total_accepted : is_total (table_of table) list ≡ true
  total_accepted = require_accepted NotTotal (is_total (table_of table) list) room_and-total.1
