-- `room` meets its contract: there are few words of either kind.
use native.Mathlib.Omega.{arith}
use Rattle.table.specs.Table.{table_of}
use Rattle.table.specs.Facts.{Wellformed}
use Rattle.table.proofs.Facts.{accepted}
use Rattle.events.proofs.FewWords.{few_words, few_levels}
use Rattle.events.proofs.net.Net.room.Goals as goal

pub overflow_add-result : goal.overflow_add-result
overflow_add-result c =
    let net = c.args.self.now in
    let T = table_of net.table.bytes.now in
    let wf : Wellformed T = (accepted net.table.bytes.now net.table.passes).table in
    record { fits = omega (arith, net.setting.all_levels, c.word_count.ensures, few_words T wf, few_levels T wf) }
