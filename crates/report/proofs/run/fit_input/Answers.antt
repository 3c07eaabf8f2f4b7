-- `fit_input` meets its contract: what is written says what is printed.
use Rattle.std.proofs.Common.{rules, OnOk}
use Rattle.report.specs.Run.{Printed}
use Rattle.report.proofs.RunSays.{ok_says}
use Rattle.report.proofs.run.fit_input.Goals as goal

pub returns-clause-says : goal.returns-clause-says
returns-clause-says g c =
    let before = g.W.Write.contents c.args.writer.now in
    let after = g.W.Write.contents c.write_all.new.self in
    let read = g.R.Read.remaining c.args.reader.now in
    let printed : OnOk c.write_all.result (Printed read before after) = search rules in
    ok_says c.write_all.result _ _ _ printed
