-- Label does not refuse a table and a total list with room enough, and its words are exact.
use lib.ListN.{length}
use Rattle.table.specs.Table.{table_of}
use Rattle.label.proofs.Exact.{label_exact}
use Rattle.label.proofs.Tests.{tests_pass}
use Rattle.fitter.specs.LabelsMeanCtl.{LabelsMeanCtl}

pub labels_mean_ctl_lem : LabelsMeanCtl
labels_mean_ctl_lem table list buffer given =
    let nodes = length (table_of table).nodes in
    let ok = (tests_pass nodes (length buffer) table list).1 given in
    let exact = label_exact table list buffer ok in
    record { answered = ok; exact = exact.bits; high = exact.high }
