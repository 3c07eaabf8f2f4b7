-- `run` meets its contract: what is found is struck.
use mathlib.Core.Path.{sym, ◌∙◌}
use Rattle.events.specs.NetTable.{table_in}
use Rattle.search.specs.TableSearch.{search_under}
use Rattle.repair.proofs.ListAfter.{after_found}
use Rattle.repair.proofs.run.run.Goals as goal

pub returns : goal.returns
returns c =
    let a = c.args in
    let T = table_in a.net.now in
    let searched = c.search_table-answer.ensures in
    let struck = c.strike_unreached in
    let told = sym c.in-Found.is ∙ searched.value in
    record {
      value = searched.value;
      list_after = after_found T a.list.now _ (search_under T a.cap) _ _ _ c.step_count-e.result
          told searched.list_after c.step_count-e.ensures struck.new.list struck.ensures;
    }
