-- `readers_of` meets its contract: the readers of states first, then those of nodes.
use Prim.Native.Nat.{ℕ}
use mathlib.Core.Path.{ap, ◌∙◌}
use native.Mathlib.Omega.{arith}
use Rattle.sets.specs.Member.{member}
use Rattle.table.specs.Table.{table_of}
use Rattle.table.proofs.Facts.{accepted}
use Rattle.readers.proofs.Places.{firsts_rise}
use Rattle.readers.proofs.table_readers.readers_of.Goals as goal

pub state_readers-requires : goal.state_readers-requires
state_readers-requires c =
    omega (arith, c.state_count.ensures, (accepted c.args.table.now.bytes.now c.args.table.now.passes).table.few_states)

pub invariant_of-result : goal.invariant_of-result
invariant_of-result c = record {
  rising = firsts_rise (table_of c.args.table.now.bytes.now) _
      c.word_places-first.ensures;
}

pub returns : goal.returns
returns c =
    let states = c.state_readers.ensures in
    let nodes = c.node_readers.ensures in
    let few = (accepted c.args.table.now.bytes.now c.args.table.now.passes).table.few_states in
    record {
      size = nodes.raised.same_length ∙ states.raised.same_length;
      of_state = λ s e h m. nodes.raised.stays e s
          (states.of_state s e (omega (arith, c.state_count.ensures))
          (ap (λ (w : ℕ). member w e) (c.requires.targets_at s (omega (arith, few))) ∙ m));
      of_node = nodes.of_node;
      of_steps = nodes.of_steps;
      firsts = c.word_places-first.ensures;
    }
