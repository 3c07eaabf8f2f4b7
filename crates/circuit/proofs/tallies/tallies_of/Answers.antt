-- `tallies_of` meets its contract.
use mathlib.Core.Path.{◌≡◌, sym, subst}
use Rattle.table.specs.Table.{table_of}
use Rattle.table.proofs.Facts.{accepted}
use Rattle.circuit.specs.Tally.{tallies}
use Rattle.circuit.specs.Exact.{TalliesAreRight}
use Rattle.circuit.proofs.Tallied.{tallies_right}
use Rattle.circuit.proofs.tallies.tallies_of.Goals as goal

pub returns-clause-right : goal.returns-clause-right
returns-clause-right c =
    let t = c.args.table.now in
    let T = table_of t.bytes.now in
    let same : tallies T.nodes ≡ record {
      plain = c.count_kinds.result;
      next = c.count_kinds-2.result;
      paired = c.count_kinds-3.result;
      single = c.count_kinds-4.result;
    } =
    (λ i. record {
      plain = sym c.count_kinds.ensures i;
      next = sym c.count_kinds-2.ensures i;
      paired = sym c.count_kinds-3.ensures i;
      single = sym c.count_kinds-4.ensures i;
    }) in
    subst (TalliesAreRight T) same (tallies_right T (accepted t.bytes.now t.passes).table)
