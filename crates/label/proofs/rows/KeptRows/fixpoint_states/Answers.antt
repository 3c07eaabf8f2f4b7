-- `fixpoint_states` meets its contract: a level is made of the one below, and one that repeats is every later one.
use Prim.Native.Nat.{ℕ}
use mathlib.Core.Path.{◌≡◌, refl, sym, ap, ◌∙◌}
use mathlib.Core.List.{List}
use native.Mathlib.Omega.{arith}
use native.Mathlib.Numerals.{add-one}
use Rattle.table.specs.declared.operator.Family.{Family}
use Rattle.ctl.specs.Rule.{Quantifier}
use Rattle.label.specs.Words.{next_word, join_word, level_word, levels_word}
use Rattle.label.proofs.Levels.{levels_stay}
use Rattle.label.proofs.rows.KeptRows.fixpoint_states.Goals as goal

-- the next level, from what its calls give
next_level : (family : Family) (q : Quantifier) (rows : List ℕ) (n a b m : ℕ) {level joined next : ℕ}
    → joined ≡ join_word family a b next → next ≡ next_word q rows n level
    → level ≡ levels_word family q rows n a b m
    → joined ≡ level_word family q rows n a b (levels_word family q rows n a b m)
next_level family q rows n a b m join_is next-is here =
    join_is ∙ ap (join_word family a b) (next-is ∙ ap (next_word q rows n) here)

pub loop-m-init : goal.loop-m-init
unfolding levels_word
loop-m-init c = refl

pub returns-then-next-level : goal.returns-then-next-level
returns-then-next-level c =
    let a = c.args in
    let k = a.self.now in
    let here = c.loop-m.invariant in
    let stays = sym (next_level a.family a.q k.rows k.states a.a a.b c.loop-m.m c.join_sets-next.ensures
    c.next_states.ensures here) ∙ c.if-next-level.true ∙ here in
    here ∙ sym (levels_stay a.family a.q k.rows k.states a.a a.b c.loop-m.m stays k.states (omega arith))

pub loop-m-preserved : goal.loop-m-preserved
unfolding levels_word
loop-m-preserved c =
    let a = c.args in
    let k = a.self.now in
    let m = c.loop-m.m in
    next_level a.family a.q k.rows k.states a.a a.b m c.join_sets-next.ensures c.next_states.ensures c.loop-m.invariant
    ∙ sym (ap (levels_word a.family a.q k.rows k.states a.a a.b) (add-one m))
