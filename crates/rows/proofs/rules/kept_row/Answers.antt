-- A state put into the empty set where a test holds is the set of that state where it holds.
use Prim.Native.Nat.{ℕ}
use mathlib.Core.Path.{◌≡◌, ◌∙◌}
use mathlib.Core.Bool.{Bool, not, ◌&&◌, ◌||◌, and_comm}
use lib.Bits.{bit_or}
use lib.Dec.{eqb}
use Rattle.sets.specs.Member.{member, set_of}
use Rattle.sets.proofs.Laws.{member-zero}
use Rattle.sets.proofs.SetOf.{set_of_cong}
use Rattle.rows.specs.Rules.{unstruck}
use Rattle.rows.proofs.rules.kept_row.Goals as goal

-- s alone, where the test holds
alone : (s : ℕ) (b : Bool) → set_of 32 (λ t. member 0 t || (b && eqb t s)) ≡ set_of 32 (λ t. eqb t s && b)
alone s b = set_of_cong 32 _ _ (λ t l. rw (member-zero t) (and_comm b (eqb t s)))

pub returns : goal.returns
returns c =
    let a = c.args in
    λ i. record {
      yes = bit_or a.step.yes ((c.insert_if.ensures ∙ alone a.s (not (eqb a.step.yes 0))) i);
      no = (c.insert_if-2.ensures ∙ alone a.s (eqb (unstruck a.target a.step) 0)) i;
    }
