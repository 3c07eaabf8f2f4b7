-- What an accepting verdict says of the tests that it was made of, and back.
use Prim.Native.Nat.{ℕ}
use mathlib.Core.Path.{◌≡◌, refl, sym, ap}
use mathlib.Core.Bool.{Bool, true, false, false≢true}
use native.Mathlib.Omega.{arith}
use Rattle.table.specs.declared.refusal.Refusal.{Refusal}
use Rattle.table.specs.Verdict.{Verdict, require, ◌then◌}
use Rattle.std.specs.Prelude.{Ok, Err}

-- a refusal is no acceptance
pub refused : (r : Refusal) → ◌≡◌ {A = Verdict} (Err r) (Ok tt) → ⊥
refused r e = let z : ◌≡◌ {A = ℕ} 0 1 = cc in omega arith

-- both of two verdicts accept when the first and then the second does, and back
pub then_accepted : (v w : Verdict) → v then w ≡ Ok tt → (v ≡ Ok tt) × (w ≡ Ok tt)
then_accepted (Ok tt) w e = (refl, e)
then_accepted (Err r) w e = absurd (refused r e)

pub accepted_then : (v w : Verdict) → v ≡ Ok tt → w ≡ Ok tt → v then w ≡ Ok tt
accepted_then (Ok tt) w p q = q
accepted_then (Err r) w p q = p

-- a required test holds when the verdict on it accepts, and back
pub require_accepted : (r : Refusal) (b : Bool) → require r b ≡ Ok tt → b ≡ true
require_accepted r true e = refl
require_accepted r false e = absurd (refused r e)

pub accepted_require : (r : Refusal) (b : Bool) → b ≡ true → require r b ≡ Ok tt
accepted_require r true e = refl
accepted_require r false e = absurd (false≢true e)

-- a refusal stands, and an acceptance leaves the verdict to the next test
pub then_refused : (v w : Verdict) (r : Refusal) → v ≡ Err r → v then w ≡ v
then_refused (Ok tt) w r e = absurd (refused r (sym e))
then_refused (Err q) w r e = refl

pub then_next : (v w : Verdict) → v ≡ Ok tt → v then w ≡ w
then_next (Ok tt) w e = refl
then_next (Err q) w e = absurd (refused q e)

-- three verdicts may be joined either way
pub then_assoc : (u v w : Verdict) → (u then v) then w ≡ u then (v then w)
then_assoc (Ok tt) v w = refl
then_assoc (Err r) v w = refl

abbrev refusal_in : Verdict → Refusal → Refusal
refusal_in (Ok tt) r = r
refusal_in (Err q) r = q

-- where a test and what is asked after it refuse, either the test fails and the refusal is its own, or it holds and
-- what comes after refuses
pub first_test : {G : Type 0} (q r : Refusal) (b : Bool) (w : Verdict) → require q b then w ≡ Err r
    → (b ≡ false → q ≡ r → G) → (b ≡ true → w ≡ Err r → G) → G
first_test q r true w e here later = later refl e
first_test q r false w e here later = here refl (ap (λ (v : Verdict). refusal_in v r) e)

-- the same of the last test
pub last_test : (q r : Refusal) (b : Bool) → require q b ≡ Err r → (b ≡ false) × (q ≡ r)
last_test q r true e = absurd (refused r (sym e))
last_test q r false e = (refl, ap (λ (v : Verdict). refusal_in v r) e)
