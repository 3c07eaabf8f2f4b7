-- `check_states` meets its contract. The loop's invariant: the records before i fit, and what was found says whether
-- one of them is initial.
use mathlib.Core.Bool.{Bool, true, false, ◌&&◌, ◌||◌}
use Rattle.table.specs.declared.refusal.Refusal.TheVariants.{StateRecord, NoInitial}
use Rattle.table.specs.Verdict.{require, ◌then◌}
use Prim.Native.Nat.{◌+◌, zero-le}
use mathlib.Core.Path.{◌≡◌, refl, sym, ap, ◌∙◌}
use native.Mathlib.Omega.{arith}
use lib.ListN.{drop}
use Rattle.table.specs.Table.{records, state_of, state_width, is_initial}
use Rattle.table.specs.Accept.{all, any, state_fits}
use Rattle.table.proofs.Records.{records_done}
use Rattle.table.proofs.Scan.{record_all, record_any}
use Rattle.table.proofs.state_check.check_states.Goals as goal
use Rattle.table.proofs.state_check.check_states.Goals.{then-found, else-found}

pub loop-i-init : goal.loop-i-init
loop-i-init c = (zero-le, refl, refl)

pub returns-then-not-state_fits : goal.returns-then-not-state_fits
returns-then-not-state_fits c =
    let a = c.args in
    let i = c.loop-i.i in
    let x = c.record_at-s.result in
    let xs = records state_of state_width a.n a.section.now in
    let fails : state_fits a.p x ≡ false = sym c.state_fits.ensures ∙ c.if-not-state_fits.true in
    let whole : all (state_fits a.p) xs ≡ false =
    c.loop-i.invariant.1
    ∙ record_all state_of state_width a.n a.section.now i c.loop-i-test.true x c.record_at-s.ensures (state_fits a.p)
    ∙ ap (λ (b : Bool). b && all (state_fits a.p) (drop (i + 1) xs)) fails in
    ap (λ (b : Bool). require StateRecord b then require NoInitial (any is_initial xs)) (sym whole)

pub loop-i-preserved : goal.loop-i-preserved
loop-i-preserved c =
    let a = c.args in
    let i = c.loop-i.i in
    let x = c.record_at-s.result in
    let xs = records state_of state_width a.n a.section.now in
    let h = c.loop-i-test.true in
    let here = c.record_at-s.ensures in
    let fits : state_fits a.p x ≡ true = sym c.state_fits.ensures ∙ c.if-not-state_fits.false in
    let rest = any is_initial (drop (i + 1) xs) in
    let inv = c.loop-i.invariant.2 in
    let found : any is_initial xs ≡ c.if-found.found || rest =
    elim c.if-found.branch as (λ _. any is_initial xs ≡ c.if-found.found || rest) [
      | then-found w ↦ inv ∙ ap (λ (b : Bool). b || any is_initial (drop i xs)) w.if-found.true
          ∙ sym (ap (λ (b : Bool). b || rest) (w.found-is ∙ w.if-found.true))
      | else-found w ↦
          inv
          ∙ ap (λ (b : Bool). b || any is_initial (drop i xs)) w.if-found.false
          ∙ record_any state_of state_width a.n a.section.now i h x here is_initial
          ∙ sym (ap (λ (b : Bool). b || rest) w.found-is)
    ]
    in (
      omega arith,
      c.loop-i.invariant.1 ∙ record_all state_of state_width a.n a.section.now i h x here (state_fits a.p)
          ∙ ap (λ (b : Bool). b && all (state_fits a.p) (drop (i + 1) xs)) fits,
      found,
    )

pub returns-then-found-2 : goal.returns-then-found-2
unfolding all any
returns-then-found-2 c =
    let a = c.args in
    let i = c.loop-i.i in
    let xs = records state_of state_width a.n a.section.now in
    let done = records_done state_of state_width a.n a.section.now i c.loop-i-test.false in
    let fit : all (state_fits a.p) xs ≡ true = c.loop-i.invariant.1 ∙ ap (all (state_fits a.p)) done in
    let found : any is_initial xs ≡ true =
    c.loop-i.invariant.2 ∙ ap (λ (b : Bool). b || any is_initial (drop i xs)) c.if-found-2.true in
    sym (ap (λ (b : Bool). require StateRecord b then require NoInitial (any is_initial xs)) fit
    ∙ ap (require NoInitial) found)

pub returns-else-found-2 : goal.returns-else-found-2
unfolding all any
returns-else-found-2 c =
    let a = c.args in
    let i = c.loop-i.i in
    let xs = records state_of state_width a.n a.section.now in
    let done = records_done state_of state_width a.n a.section.now i c.loop-i-test.false in
    let fit : all (state_fits a.p) xs ≡ true = c.loop-i.invariant.1 ∙ ap (all (state_fits a.p)) done in
    let missing : any is_initial xs ≡ false =
    c.loop-i.invariant.2 ∙ ap (λ (b : Bool). b || any is_initial (drop i xs)) c.if-found-2.false
    ∙ ap (any is_initial) done in
    sym (ap (λ (b : Bool). require StateRecord b then require NoInitial (any is_initial xs)) fit
    ∙ ap (require NoInitial) missing)
