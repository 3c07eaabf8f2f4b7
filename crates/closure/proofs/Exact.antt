-- The forced literals are the smallest set, and the computed closure has just these.
use mathlib.Core.Path.{◌≡◌}
use mathlib.Core.Bool.{true}
use Rattle.circuit.specs.Logic.{Literal}
use Rattle.circuit.specs.Variables.{Var}
use Rattle.closure.specs.Closure.{given, unit}
use Rattle.closure.specs.Exact.{ForcedIsTheSmallest, ComputedIsTheForced}
use Rattle.closure.proofs.Forced.{forced_least}
use Rattle.closure.proofs.Computed.{closure_fails, closure_holds}
use Rattle.closure.proofs.SettledBelow.{settled_right, settled_only}

pub forced_is_the_smallest : ForcedIsTheSmallest
forced_is_the_smallest F P = record {
  has_given = λ l m. given m;
  is_closed = λ C c l m alone. unit C c m alone;
  is_least = λ Q start closed l f. forced_least {Q = λ (k : Literal Var). Q k ≡ true} start closed f;
}

pub computed_is_the_forced : ComputedIsTheForced
computed_is_the_forced size F P inside consistent within = record {
  fails = closure_fails size F P inside consistent within;
  holds = closure_holds size F P inside consistent within;
  counts = λ e some. settled_right size F P inside consistent within e some;
  counts_alone = λ e some. settled_only size F P inside consistent within e some;
}
