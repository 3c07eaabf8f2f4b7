-- `check_list` meets its contract. The loop's invariant: the list's bytes are all bits exactly when those from j on
-- are.
use mathlib.Core.Bool.{Bool, true, false, ◌&&◌}
use Prim.Native.Nat.{◌+◌, zero-le}
use lib.Dec.{leb}
use lib.ListN.{get_or, drop_of_length-le, length, drop}
use Rattle.table.specs.declared.refusal.Refusal.TheVariants.{ListForm}
use Rattle.table.specs.Verdict.{require}
use Rattle.table.proofs.Refused.{list_accepts}
use Rattle.table.proofs.Scan.{all_next}
use mathlib.Core.Path.{◌≡◌, refl, sym, ap, ◌∙◌}
use native.Mathlib.Omega.{arith}
use borrow.Author.Tests.{lt-leb, le-leb, eq-eqb, ne_eqb}
use Rattle.table.specs.Accept.{all, list_verdict}
use Rattle.table.proofs.list_check.check_list.Goals as goal

pub returns-then-list-e-clause-value : goal.returns-then-list-e-clause-value
unfolding list_verdict
returns-then-list-e-clause-value c =
    let a = c.args in
    ap (λ (b : Bool). require ListForm (b && all (λ k. leb k 1) a.list.now))
    (sym (ne_eqb (length a.list.now) a.e c.if-list-e.true))

pub returns-then-list-e-clause-accepted : goal.returns-then-list-e-clause-accepted
returns-then-list-e-clause-accepted c = list_accepts c.args.e c.args.list.now _ (returns-then-list-e-clause-value c)

pub loop-byte-init : goal.loop-byte-init
loop-byte-init c = (zero-le, refl)

pub returns-then-byte-gt1-clause-value : goal.returns-then-byte-gt1-clause-value
unfolding list_verdict
returns-then-byte-gt1-clause-value c =
    let a = c.args in
    let l = a.list.now in
    let j = c.loop-byte.byte-index in
    let whole : all (λ k. leb k 1) l ≡ false =
    c.loop-byte.invariant.1 ∙ all_next (λ k. leb k 1) l j c.loop-byte-test.true
    ∙ ap (λ (b : Bool). b && all (λ k. leb k 1) (drop (j + 1) l)) (lt-leb (get_or l j 0) 1 c.if-byte-gt1.true) in
    sym (ap (λ (b : Bool). require ListForm (b && all (λ k. leb k 1) l)) (eq-eqb (length l) a.e c.if-list-e.false)
    ∙ ap (require ListForm) whole)

pub returns-then-byte-gt1-clause-accepted : goal.returns-then-byte-gt1-clause-accepted
returns-then-byte-gt1-clause-accepted c = list_accepts c.args.e c.args.list.now _ (returns-then-byte-gt1-clause-value c)

pub loop-byte-preserved : goal.loop-byte-preserved
loop-byte-preserved c =
    let a = c.args in
    let l = a.list.now in
    let j = c.loop-byte.byte-index in (
      omega arith,
      c.loop-byte.invariant.1 ∙ all_next (λ k. leb k 1) l j c.loop-byte-test.true
          ∙ ap (λ (b : Bool). b && all (λ k. leb k 1) (drop (j + 1) l)) (le-leb (get_or l j 0) 1 c.if-byte-gt1.false),
    )

pub returns-clause-value : goal.returns-clause-value
unfolding list_verdict all
returns-clause-value c =
    let a = c.args in
    let l = a.list.now in
    let j = c.loop-byte.byte-index in
    let whole : all (λ k. leb k 1) l ≡ true =
    c.loop-byte.invariant.1 ∙ ap (all (λ k. leb k 1)) (drop_of_length-le l {i = j} c.loop-byte-test.false) in
    sym (ap (λ (b : Bool). require ListForm (b && all (λ k. leb k 1) l)) (eq-eqb (length l) a.e c.if-list-e.false)
    ∙ ap (require ListForm) whole)

pub returns-clause-accepted : goal.returns-clause-accepted
returns-clause-accepted c = list_accepts c.args.e c.args.list.now _ (returns-clause-value c)
