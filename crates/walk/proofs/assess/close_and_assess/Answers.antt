-- `close_and_assess` meets its contract: what comes of the closure that was worked out.
use Rattle.search.specs.Fine.{step_literals}
use Rattle.walk.proofs.assess.close_and_assess.Goals as goal

pub returns : goal.returns
returns c =
    record {
      sized = c.close_parts-closed.ensures.sized;
      comes = λ P b fine between stores. c.assess.ensures _ P b fine
          (c.close_parts-closed.ensures.closes (step_literals P) between) c.close_parts-closed.ensures.resting stores;
    }
