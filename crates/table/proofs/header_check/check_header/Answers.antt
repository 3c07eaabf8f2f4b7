-- `check_header` meets its contract: each way out has decided the tests up to its own.
use mathlib.Core.Path.{◌≡◌, sym, ap, ◌∙◌}
use mathlib.Core.Bool.{true, false}
use Prim.Native.Nat.{ℕ}
use native.Mathlib.Omega.{arith}
use borrow.Author.Tests.{lt-leb, le-leb, ne_eqb}
use lib.Dec.{eqb}
use lib.ListN.{length}
use Rattle.table.specs.Table.{counts_of, packed_length}
use Rattle.table.specs.Accept.{counts_fit, table_verdict}
use Rattle.table.proofs.Facts.{counts_within}
use Rattle.table.proofs.header_check.check_header.Goals as goal

pub returns-then-table-lt-HEADER_WIDTH-clause-refused : goal.returns-then-table-lt-HEADER_WIDTH-clause-refused
unfolding table_verdict
returns-then-table-lt-HEADER_WIDTH-clause-refused c =
    let l = c.args.table.now in
    simp (lt-leb 4 (length l) (omega arith))

pub returns-then-not-counts_fit-clause-refused : goal.returns-then-not-counts_fit-clause-refused
unfolding table_verdict
returns-then-not-counts_fit-clause-refused c =
    let l = c.args.table.now in
    let out : counts_fit (counts_of l) ≡ false =
    ap counts_fit (sym c.counts_of-c.ensures) ∙ sym c.counts_fit.ensures ∙ c.if-not-counts_fit.true in
    simp (le-leb 4 (length l) (omega arith), out)

pub packed_length-requires : goal.packed_length-requires
packed_length-requires c =
    let w = counts_within c.counts_of-c.result (sym c.counts_fit.ensures ∙ c.if-not-counts_fit.false) in
    (omega arith, (omega arith, omega arith))

pub returns-then-table-packed_length-clause-refused : goal.returns-then-table-packed_length-clause-refused
unfolding table_verdict
returns-then-table-packed_length-clause-refused c =
    let l = c.args.table.now in
    let k = c.counts_of-c.ensures in
    let fit : counts_fit (counts_of l) ≡ true =
    ap counts_fit (sym k) ∙ sym c.counts_fit.ensures ∙ c.if-not-counts_fit.false in
    let off : eqb (length l) (packed_length (counts_of l)) ≡ false =
    ap (λ (n : ℕ). eqb (length l) n) (ap packed_length (sym k) ∙ sym c.packed_length.ensures)
    ∙ ne_eqb (length l) c.packed_length.result c.if-table-packed_length.true in
    simp (le-leb 4 (length l) (omega arith), fit, off)

pub returns-clause-accepted : goal.returns-clause-accepted
returns-clause-accepted c =
    let k = c.counts_of-c.ensures in
    let w = counts_within c.counts_of-c.result (sym c.counts_fit.ensures ∙ c.if-not-counts_fit.false) in (
      k,
      record {
        header = omega arith;
        counts = rw (sym k) w;
        whole = c.if-table-packed_length.false ∙ c.packed_length.ensures ∙ ap packed_length k;
      },
    )
