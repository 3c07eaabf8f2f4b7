-- Lines read one by one: what is left of so many lines behind the first, and what the whole has then read.
use Prim.Native.Nat.{ℕ, zero, suc, ◌-◌, ◌<◌}
use mathlib.Core.Path.{◌≡◌, refl, sym, ap, ◌∙◌}
use mathlib.Core.List.{List, [], ◌∷◌}
use Rattle.std.specs.Prelude.{Option, Some, None}
use native.Mathlib.Omega.{arith}
use Rattle.sheet.specs.Parse.{Parsed, Parser, got, broken, after, ◌>>=◌, return, times}
use Rattle.sheet.specs.Reading.{values_from, values}

-- the text behind what was read
abbrev pub behind : {A : Type 0} → Parsed A → Option (List ℕ)
behind (got a rest) = Some rest
behind broken = None

behind_return : {A B : Type 0} (x : Parsed A) (f : A → B) → behind (after x (λ a. return (f a))) ≡ behind x
behind_return (got a rest) f = refl
behind_return broken f = refl

-- what has no text behind it was broken
pub behind_none : {A : Type 0} (x : Parsed A) → behind x ≡ None → x ≡ broken
behind_none (got a rest) e = absurd (let z : ◌≡◌ {A = ℕ} 0 1 = cc in omega arith)
behind_none broken e = refl

module _ {A : Type 0} (p : Parser A) where
  -- behind the first of so many lines, one line less is left
  pub times_next : (count : ℕ) (text : List ℕ) (x : A) (rest : List ℕ) → 0 < count → p text ≡ got x rest
      → behind (times count p text) ≡ behind (times (count - 1) p rest)
  unfolding times
  times_next zero text x rest h e = absurd (omega arith)
  times_next (suc count) text x rest h e =
      let k : count ≡ suc count - 1 = omega arith in
      ap (λ (z : Parsed A). behind (after z (λ a. times count p >>= (λ xs. return (a ∷ xs))))) e
      ∙ behind_return (times count p rest) (λ xs. x ∷ xs)
      ∙ ap (λ (n : ℕ). behind (times n p rest)) k

  -- when the first is broken, so are all
  pub times_broken : (count : ℕ) (text : List ℕ) → 0 < count → p text ≡ broken → behind (times count p text) ≡ None
  unfolding times
  times_broken zero text h e = absurd (omega arith)
  times_broken (suc count) text h e =
      ap (λ (z : Parsed A). behind (after z (λ a. times count p >>= (λ xs. return (a ∷ xs))))) e

  values_step : (count : ℕ) (rest : List ℕ) (z : Parsed A)
      → ((r : List ℕ) → behind (times count p r) ≡ Some rest → times count p r ≡ got (values count p r) rest)
      → behind (after z (λ a. times count p >>= (λ xs. return (a ∷ xs)))) ≡ Some rest
      → after z (λ a. times count p >>= (λ xs. return (a ∷ xs))) ≡ got (values_from z (values count p)) rest
  values_step count rest (got x r) again e =
      ap (λ (y : Parsed (List A)). after y (λ xs. return (x ∷ xs)))
      (again r (sym (behind_return (times count p r) (λ xs. x ∷ xs)) ∙ e))
  values_step count rest broken again e = absurd (let z : ◌≡◌ {A = ℕ} 0 1 = cc in omega arith)

  -- what so many lines have read are their values
  pub times_values : (count : ℕ) (text rest : List ℕ) → behind (times count p text) ≡ Some rest
      → times count p text ≡ got (values count p text) rest
  unfolding times values
  times_values zero text rest e = let same : text ≡ rest = cc in ap (λ (l : List ℕ). got [] l) same
  times_values (suc count) text rest e = values_step count rest (p text) (λ r. times_values count r rest) e

  -- the values behind the first line
  pub values_next : (count : ℕ) (text : List ℕ) (x : A) (rest : List ℕ) → 0 < count → p text ≡ got x rest
      → values count p text ≡ x ∷ values (count - 1) p rest
  unfolding values
  values_next zero text x rest h e = absurd (omega arith)
  values_next (suc count) text x rest h e =
      let k : count ≡ suc count - 1 = omega arith in
      ap (λ (z : Parsed A). values_from z (values count p)) e ∙ ap (λ (n : ℕ). x ∷ values n p rest) k

  -- and none when the first is broken
  pub values_broken : (count : ℕ) (text : List ℕ) → p text ≡ broken → values count p text ≡ []
  unfolding values
  values_broken zero text e = refl
  values_broken (suc count) text e = ap (λ (z : Parsed A). values_from z (values count p)) e
