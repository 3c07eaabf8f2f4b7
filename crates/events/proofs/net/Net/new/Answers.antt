-- `new` meets its contract: what is worked out is what propagation asks for.
use Prim.Native.Nat.{ℕ}
use mathlib.Core.Path.{◌≡◌, ap, ◌∙◌}
use mathlib.Core.List.{List}
use native.Mathlib.Omega.{arith}
use lib.Dec.{eqb}
use lib.ListN.{length, get_or}
use Rattle.sets.proofs.SetOf.{set_of_cong}
use Rattle.table.specs.declared.record.State.{State}
use Rattle.table.specs.Table.{table_of, states_part}
use Rattle.table.specs.StateSets.{initial_word}
use Rattle.table.proofs.Facts.{accepted, state_anywhere}
use Rattle.table.proofs.TargetSets.{targets-length, targets_at}
use Rattle.closure.specs.Rest.{initial_set}
use Rattle.events.proofs.net.Net.new.Goals as goal

-- what is read off the states
initial_are : (table : List ℕ) (states : List ℕ) → states ≡ states_part table → (n : ℕ)
    → n ≡ length (table_of table).states
    → initial_word states n ≡ initial_set (table_of table)
initial_are table states section n count =
    (λ j. initial_word (section j) (count j))
    ∙ set_of_cong (length (table_of table).states) _ _
    (λ s h. ap (λ (x : State). eqb x.initial 1) (state_anywhere table s))

pub initial_states-initial-requires : goal.initial_states-initial-requires
initial_states-initial-requires c =
    omega (arith, c.state_count-states.ensures, (accepted c.args.table.bytes.now c.args.table.passes).table.few_states)

pub readers_of-readers-requires : goal.readers_of-readers-requires
readers_of-readers-requires c =
    let T = table_of c.args.table.bytes.now in
    record {
      targets_at = λ k h. ap (λ (l : List ℕ). get_or l k 0) c.target_sets-targets.ensures
          ∙ targets_at T.steps k h;
    }

pub invariant_of-graph : goal.invariant_of-graph
invariant_of-graph c = record {
  few = omega (
    arith,
    c.state_count-states.ensures,
    (accepted c.args.table.bytes.now c.args.table.passes).table.few_states,
  );
}

pub invariant_of-result : goal.invariant_of-result
invariant_of-result c =
    let t = c.args.table in
    let T = table_of t.bytes.now in
    let targets = c.target_sets-targets.ensures in
    let bases = c.level_bases-bases.ensures in
    record {
      setting = record {
        accepted = t.passes;
        states = c.state_count-states.ensures;
        targets_size = ap length targets ∙ targets-length T.steps;
        targets_at = λ s h. ap (λ (l : List ℕ). get_or l s 0) targets ∙ targets_at T.steps s h;
        initial_states =
            c.initial_states-initial.ensures ∙ initial_are t.bytes.now _ t.states_are _ c.state_count-states.ensures;
        bases_size = bases.size;
        bases_at = bases.at;
        all_levels = bases.total;
        reads = c.readers_of-readers.ensures;
      };
    }
