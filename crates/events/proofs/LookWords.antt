-- The states of a word to look at that are states of the table.
use Prim.Native.Nat.{ℕ, ◌≤◌, ◌<◌}
use native.Mathlib.Omega.{arith}
use mathlib.Core.Path.{◌≡◌, sym, subst}
use mathlib.Core.Bool.{true}
use lib.Bits.{bit_and}
use lib.Dec.{ltb}
use lib.ListN.{length}
use borrow.Author.Tests.{lt-ltb, ltb-true}
use Rattle.sets.specs.Member.{member, set_of}
use Rattle.sets.proofs.SetOf.{in_set}
use Rattle.table.specs.Table.{Table}
use Rattle.rows.proofs.RowLaws.{and-true}
use Rattle.closure.proofs.Masked.{OfStates}

pub word_inside : (T : Table) (word all : ℕ) → all ≡ set_of 32 (λ t. ltb t (length T.states))
    → OfStates T (bit_and word all)
word_inside T word all e s m = ltb-true s _
    ((in_set 32 (λ t. ltb t (length T.states)) s).0
    (subst (λ (x : ℕ). member x s ≡ true) e ((and-true word all s).0 m).1)).1

pub word_here : (T : Table) → length T.states ≤ 32 → (word all : ℕ) → all ≡ set_of 32 (λ t. ltb t (length T.states))
    → (s : ℕ) → s < length T.states
    → member word s ≡ true → member (bit_and word all) s ≡ true
word_here T few word all e s h m = (and-true word all s).1 (
  m,
  subst (λ (x : ℕ). member x s ≡ true) (sym e)
      ((in_set 32 (λ t. ltb t (length T.states)) s).1 (omega arith, lt-ltb s _ h)),
)
