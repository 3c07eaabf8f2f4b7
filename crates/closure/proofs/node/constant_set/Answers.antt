-- All of n states are those below n, and none of them are the empty set.
use Prim.Native.Nat.{ℕ, ◌≤◌}
use mathlib.Core.Path.{◌≡◌, sym, ap, ◌∙◌}
use mathlib.Core.Bool.{Bool, true, false, and-true, and-false}
use native.Mathlib.Nat.{lt_of_lt_of_le}
use lib.Dec.{ltb}
use lib.Pow.{pow_mono}
use Rattle.sets.specs.Member.{set_of}
use Rattle.sets.proofs.SetOf.{set_of_unique, set_of-lt, member-set_of, empty}
use Rattle.closure.proofs.node.constant_set.Goals as goal

all-states : (n : ℕ) → n ≤ 32 → set_of 32 (λ t. ltb t n) ≡ set_of n (λ s. true)
all-states n h = sym (set_of_unique 32 (λ t. ltb t n) (set_of n (λ s. true))
    (lt_of_lt_of_le (set_of-lt n (λ s. true)) (pow_mono {i = n} {j = 32} h))
    (λ s l. member-set_of n (λ s. true) s ∙ and-true (ltb s n)))

no-states : (n : ℕ) → set_of n (λ s. false) ≡ 0
no-states n = empty n _ (set_of-lt n _) (λ s h. member-set_of n _ s ∙ and-false (ltb s n))

pub returns-then-holds : goal.returns-then-holds
returns-then-holds c =
    let n = c.args.n in
    c.below.ensures ∙ all-states n c.requires ∙ ap (λ (b : Bool). set_of n (λ s. b)) (sym c.if-holds.true)

pub returns-else-holds : goal.returns-else-holds
returns-else-holds c =
    let n = c.args.n in
    sym (no-states n) ∙ ap (λ (b : Bool). set_of n (λ s. b)) (sym c.if-holds.false)
