use mathlib.Core.Path.{sym, ◌∙◌}
use Rattle.ctl.proofs.Rank.{irreflexive, transitive, trichotomy}
use Rattle.ctl.proofs.Repair.{cheapest_repair_unique}
use Rattle.ctl.proofs.laws.cheapest_is_unique.Goals as goal

pub returns : goal.returns
returns c = record {
  orders = λ T. record {
    irreflexive = irreflexive;
    transitive = λ l m k a b. transitive l m k (a.size ∙ sym b.size);
    total = λ l m a b. trichotomy l m (a.size ∙ sym b.size) a.bits b.bits;
  };
  unique = cheapest_repair_unique;
}
