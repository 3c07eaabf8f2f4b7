-- `insert_if` meets its contract: the insertion where it is asked for, and the set as it is where not.
use mathlib.Core.Path.{sym, ap, ◌∙◌}
use mathlib.Core.Bool.{Bool, ◌&&◌, ◌||◌, or-false}
use lib.Dec.{eqb}
use Rattle.sets.specs.Member.{member}
use Rattle.sets.proofs.SetOf.{set_of_cong, set_of-member}
use Rattle.sets.proofs.insert_if.Goals as goal

pub returns-then-yes : goal.returns-then-yes
returns-then-yes c =
    let a = c.args in
    c.insert.ensures
    ∙ set_of_cong 32 _ _ (λ t h. ap (λ (b : Bool). member a.set t || (b && eqb t a.s)) (sym c.if-yes.true))

pub returns : goal.returns
returns c =
    let a = c.args in
    sym (set_of_cong 32 _ _ (λ t h. ap (λ (b : Bool). member a.set t || (b && eqb t a.s)) c.if-yes.false
    ∙ or-false (member a.set t)) ∙ set_of-member 32 a.set c.ranges.set.fits)
