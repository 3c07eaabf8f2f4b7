-- `counts_of` meets its contract, field by field.
use Rattle.table.proofs.counts.counts_of.Goals as goal

pub returns : goal.returns
returns c = λ i. record {
  states = c.byte_at.ensures i;
  steps = c.byte_at-2.ensures i;
  nodes = c.byte_at-3.ensures i;
  props = c.byte_at-4.ensures i;
}
