-- From its number a refusal is found again, so no two have the same, and none has 0, 14 or 15.
use Prim.Native.Nat.{ℕ}
use mathlib.Core.Path.{◌≡◌, refl, sym, ap, ◌∙◌}
use mathlib.Core.Logic.{◌↔◌}
use mathlib.Core.List.{List, [], ◌∷◌}
use mathlib.Core.Option.{Option, none as nothing, some}
use native.Mathlib.Omega.{arith}
use lib.ListN.{get_or}
use Rattle.table.specs.declared.refusal.Refusal.{Refusal}
use Rattle.table.specs.declared.refusal.Refusal.TheVariants.{
  SheetForm,
  Length,
  Counts,
  StateRecord,
  NoInitial,
  StepEnd,
  RepeatedStep,
  NodeRecord,
  ListForm,
  ShortBuffer,
  NotTotal,
  NoInitialKept,
  RootFails,
  UnreachedStep,
  NotTables,
}
use Rattle.table.specs.Verdict.{refusal_number}
use Rattle.search.specs.declared.answer.Answer.{Answer}
use Rattle.search.specs.declared.answer.Answer.TheVariants.{Found, None, Spent, Refused}
use Rattle.search.specs.Answer.{answer_number, IsFound, IsNone, IsSpent}
use Rattle.fitter.specs.Numbers.{NumbersTell}

-- the refusal of each number
abbrev refusals : List (Option Refusal)
refusals =
    nothing
    ∷ some SheetForm
    ∷ some Length
    ∷ some Counts
    ∷ some StateRecord
    ∷ some NoInitial
    ∷ some StepEnd
    ∷ some RepeatedStep
    ∷ some NodeRecord
    ∷ some ListForm
    ∷ some ShortBuffer
    ∷ some NotTotal
    ∷ some NoInitialKept
    ∷ some RootFails
    ∷ nothing
    ∷ nothing
    ∷ some UnreachedStep
    ∷ some NotTables
    ∷ []

abbrev refusal_of : ℕ → Option Refusal
refusal_of n = get_or refusals n nothing

found_again : (r : Refusal) → refusal_of (refusal_number r) ≡ some r
found_again SheetForm = refl
found_again Length = refl
found_again Counts = refl
found_again StateRecord = refl
found_again NoInitial = refl
found_again StepEnd = refl
found_again RepeatedStep = refl
found_again NodeRecord = refl
found_again ListForm = refl
found_again ShortBuffer = refl
found_again NotTotal = refl
found_again NoInitialKept = refl
found_again RootFails = refl
found_again UnreachedStep = refl
found_again NotTables = refl

pub distinct : (q r : Refusal) → refusal_number q ≡ refusal_number r → q ≡ r
distinct q r e = let both : some q ≡ some r = sym (found_again q) ∙ ap refusal_of e ∙ found_again r in cc

-- a number of no refusal
pub of_none : (n : ℕ) → refusal_of n ≡ nothing → (r : Refusal) → ¬ (refusal_number r ≡ n)
of_none n is r e =
    let both : ◌≡◌ {A = Option Refusal} (some r) nothing = sym (found_again r) ∙ ap refusal_of e ∙ is in
    absurd (let z : ◌≡◌ {A = ℕ} 0 1 = cc in omega arith)

found_number : (a : Answer) → (answer_number a ≡ 0) ↔ IsFound a
found_number (Found p c k) = (λ e. tt, λ t. refl)
found_number (None c k) = (λ e. absurd (omega (arith, e)), λ t. absurd t)
found_number (Spent c k) = (λ e. absurd (omega (arith, e)), λ t. absurd t)
found_number (Refused r) = (λ e. absurd (of_none 0 refl r e), λ t. absurd t)

none_number : (a : Answer) → (answer_number a ≡ 14) ↔ IsNone a
none_number (Found p c k) = (λ e. absurd (omega (arith, e)), λ t. absurd t)
none_number (None c k) = (λ e. tt, λ t. refl)
none_number (Spent c k) = (λ e. absurd (omega (arith, e)), λ t. absurd t)
none_number (Refused r) = (λ e. absurd (of_none 14 refl r e), λ t. absurd t)

spent_number : (a : Answer) → (answer_number a ≡ 15) ↔ IsSpent a
spent_number (Found p c k) = (λ e. absurd (omega (arith, e)), λ t. absurd t)
spent_number (None c k) = (λ e. absurd (omega (arith, e)), λ t. absurd t)
spent_number (Spent c k) = (λ e. tt, λ t. refl)
spent_number (Refused r) = (λ e. absurd (of_none 15 refl r e), λ t. absurd t)

refused_number : (a : Answer) (r : Refusal) → (answer_number a ≡ refusal_number r) ↔ (a ≡ Refused r)
refused_number (Found p c k) r =
    (λ e. absurd (of_none 0 refl r (sym e)), λ e. absurd (let z : ◌≡◌ {A = ℕ} 0 1 = cc in omega arith))
refused_number (None c k) r =
    (λ e. absurd (of_none 14 refl r (sym e)), λ e. absurd (let z : ◌≡◌ {A = ℕ} 0 1 = cc in omega arith))
refused_number (Spent c k) r =
    (λ e. absurd (of_none 15 refl r (sym e)), λ e. absurd (let z : ◌≡◌ {A = ℕ} 0 1 = cc in omega arith))
refused_number (Refused q) r = (λ e. ap Refused (distinct q r e), λ e. ap answer_number e)

pub numbers_tell : NumbersTell
numbers_tell = record {
  numbers = refl;
  distinct = distinct;
  not_zero = of_none 0 refl;
  found = found_number;
  none = none_number;
  spent = spent_number;
  refused = refused_number;
}
