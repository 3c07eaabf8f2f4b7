-- `choose` meets its contract: the rows with the step lie between what is chosen and its closure, at rest but for
-- what reads the steps out of its state.
use mathlib.Core.Path.{◌≡◌, sym, subst, subst₂, ◌∙◌}
use mathlib.Core.Bool.{Bool}
use mathlib.Core.List.{List, ◌∷◌}
use Rattle.std.proofs.Common.{rules}
use Prim.Native.Nat.{ℕ}
use Rattle.table.specs.Table.{Table}
use Rattle.table.specs.Facts.{Wellformed}
use Rattle.events.specs.NetTable.{table_in}
use Rattle.events.specs.Watched.{RestBut}
use Rattle.circuit.specs.Logic.{Literal}
use Rattle.closure.specs.Computed.{Marks}
use Rattle.closure.specs.Closes.{Between}
use Rattle.closure.specs.Knowledge.{knowledge, Sized}
use Rattle.propagate.specs.Memory.{memory}
use Rattle.search.specs.Finds.{Held}
use Rattle.search.specs.Fine.{step_literals}
use Rattle.search.specs.Search.{Best}
use Rattle.search.specs.StepRows.{with_step}
use Rattle.walk.specs.Stands.{GoesOn}
use Rattle.walk.proofs.Chosen.{chosen_between, chosen_sized}
use Rattle.walk.proofs.ChosenRest.{chosen_rest}
use Rattle.walk.proofs.Netted.{net_table}
use Rattle.walk.proofs.TryLaws.{try_fine}
use Rattle.walk.proofs.assess.choose.Goals as goal
use Rattle.walk.proofs.assess.choose.Goals.{then-fresh, else-fresh}

module _ {T : Table} (wf : Wellformed T) {rows words : List ℕ} (sized : Sized T (memory rows words))
    {j : ℕ} {best : Held} {find : List ℕ} {P : List (Literal ℕ)} {m : Marks} {b : Best}
    (g : GoesOn T j (memory rows words) best find P m b)
    (sign : Bool) {next : List ℕ} (is : next ≡ with_step T rows sign j) where
  chosen : Between T (step_literals (record { sign = sign; var = j } ∷ P)) (memory next words)
  chosen = subst (λ r. Between T (step_literals (record { sign = sign; var = j } ∷ P)) (memory r words)) (sym is)
      (chosen_between T wf rows words sized sign j g.stands.inside P g.between)

pub choose_step-requires : goal.choose_step-requires
choose_step-requires c = c.requires.somewhere.3.stands.inside

pub close_and_assess-requires-clause-founded : goal.close_and_assess-requires-clause-founded
close_and_assess-requires-clause-founded c = (
  _,
  (chosen (net_table c.args.net.now) (search rules) c.requires.somewhere.3 c.args.kept
      c.choose_step.ensures).below,
)

pub close_and_assess-requires-clause-sized : goal.close_and_assess-requires-clause-sized
close_and_assess-requires-clause-sized c =
    let T = table_in c.args.net.now in
    subst (λ r. Sized T (memory r c.args.words.now)) (sym c.choose_step.ensures)
    (chosen_sized T (net_table c.args.net.now) c.args.rows.now c.args.words.now
    (search rules) c.args.kept c.args.j c.requires.somewhere.3.stands.inside)

pub close_and_assess-requires-clause-rest_but : goal.close_and_assess-requires-clause-rest_but
close_and_assess-requires-clause-rest_but c set told =
    let T = table_in c.args.net.now in
    let rows = c.args.rows.now in
    let words = c.args.words.now in
    let stand = c.requires.somewhere in
    let sized : Sized T (memory rows words) = search rules in
    elim c.if-fresh.branch as (λ _. RestBut T set (knowledge T (memory c.choose_step.new.rows words))) [
      | then-fresh w ↦ absurd (cc (w.changed-is, told))
      | else-fresh w ↦ (
          let same : w.changed_by.result ≡ set = cc (w.changed-is, told) in
          subst₂ (λ r x. RestBut T x (knowledge T (memory r words))) (sym c.choose_step.ensures)
          (sym w.changed_by.ensures ∙ same)
          (chosen_rest T (net_table c.args.net.now) rows words sized c.args.kept c.args.j stand.3.stands.inside
          (step_literals stand.0) stand.3.between.below (c.requires.resting w.if-fresh.false))
          )
    ]

pub returns : goal.returns
returns c P m b g =
    let T = table_in c.args.net.now in
    let wf = net_table c.args.net.now in
    c.close_and_assess.ensures.comes (record { sign = c.args.kept; var = c.args.j } ∷ P) b
    (try_fine T wf c.args.j c.args.rows.now P m g.stands c.args.kept)
    (chosen wf (search rules) g c.args.kept c.choose_step.ensures) g.stores
