-- The unit rule at a gate of two inputs, or of one: g is the AND of a and b, of the literals with this sign; with the
-- sign false it is the OR.
use mathlib.Core.Path.{refl}
use mathlib.Core.Bool.{Bool, true, false, not}
use mathlib.Core.List.Memᴰ
use mathlib.Core.List.{[], ◌∷◌}
use Rattle.circuit.specs.Logic.{Literal, opposite}
use Rattle.circuit.specs.Variables.{Var, literal}
use Rattle.circuit.proofs.Lists.{each_more, each_one}
use Rattle.closure.proofs.GateRules.{ClosedAnd, and_up, and_down, and-false, and_last}

-- S is closed under its clauses
abbrev pub ClosedPair : (Literal Var → Type 0) → Bool → Var → Var → Var → Type 0
ClosedPair S sign g a b = ClosedAnd S (literal sign g) (literal sign a ∷ literal sign b ∷ [])

module _ {S : Literal Var → Type 0} {sign : Bool} {g a b : Var} (c : ClosedPair S sign g a b) where
  pub pair_up : S (literal sign a) → S (literal sign b) → S (literal sign g)
  pair_up p q = and_up c (each_more S _ _ p (each_one S _ q))

  pub pair_left : S (literal sign g) → S (literal sign a)
  pair_left = and_down c _ (Memᴰ.head refl)

  pub pair_right : S (literal sign g) → S (literal sign b)
  pair_right = and_down c _ (Memᴰ.tail (Memᴰ.head refl))

  pub left_false : S (literal (not sign) a) → S (literal (not sign) g)
  left_false = and-false c (literal sign a) (Memᴰ.head refl)

  pub right_false : S (literal (not sign) b) → S (literal (not sign) g)
  right_false = and-false c (literal sign b) (Memᴰ.tail (Memᴰ.head refl))

  -- the last input left
  pub left_last : S (literal (not sign) g) → S (literal sign b) → S (literal (not sign) a)
  left_last p q = and_last c (literal sign a) (Memᴰ.head refl) p
      (each_more _ _ _ (λ other. absurd (other refl)) (each_one _ _ (λ other. q)))

  pub right_last : S (literal (not sign) g) → S (literal sign a) → S (literal (not sign) b)
  right_last p q = and_last c (literal sign b) (Memᴰ.tail (Memᴰ.head refl)) p
      (each_more _ _ _ (λ other. q) (each_one _ _ (λ other. absurd (other refl))))

-- g is the OR of a and b, of the literals with this sign
module _ {S : Literal Var → Type 0} {g a b : Var} where
  pub or_left : (sign : Bool) → ClosedPair S (not sign) g a b → S (literal sign a) → S (literal sign g)
  or_left true c = left_false c
  or_left false c = left_false c

  pub or_right : (sign : Bool) → ClosedPair S (not sign) g a b → S (literal sign b) → S (literal sign g)
  or_right true c = right_false c
  or_right false c = right_false c

  -- the last input left
  pub or_left_last : (sign : Bool) → ClosedPair S (not sign) g a b → S (literal sign g) → S (literal (not sign) b)
      → S (literal sign a)
  or_left_last true c = left_last c
  or_left_last false c = left_last c

  pub or_right_last : (sign : Bool) → ClosedPair S (not sign) g a b → S (literal sign g) → S (literal (not sign) a)
      → S (literal sign b)
  or_right_last true c = right_last c
  or_right_last false c = right_last c

-- both inputs are one, and its literal counts once: the value passes both ways
module _ {S : Literal Var → Type 0} {g a : Var} where
  pub same_up : (sign : Bool) → ClosedPair S sign g a a → (x : Bool) → S (literal x a) → S (literal x g)
  same_up true c true p = pair_up c p p
  same_up true c false p = left_false c p
  same_up false c true p = left_false c p
  same_up false c false p = pair_up c p p

  -- where the output is false, no other literal of the long clause is left
  same_last : (sign : Bool) → ClosedPair S sign g a a → S (literal (not sign) g) → S (literal (not sign) a)
  same_last sign c p = and_last c (literal sign a) (Memᴰ.head refl) p
      (each_more _ _ _ (λ other. absurd (other refl)) (each_one _ _ (λ other. absurd (other refl))))

  pub same_down : (sign : Bool) → ClosedPair S sign g a a → (x : Bool) → S (literal x g) → S (literal x a)
  same_down true c true p = pair_left c p
  same_down true c false p = same_last true c p
  same_down false c true p = same_last false c p
  same_down false c false p = pair_left c p

-- ---- one input

module _ {S : Literal Var → Type 0} {h l : Literal Var} (c : ClosedAnd S h (l ∷ [])) where
  pub one_up : S l → S h
  one_up p = and_up c (each_one S l p)

  pub one_down : S h → S l
  one_down = and_down c l (Memᴰ.head refl)

  pub one_false : S (opposite l) → S (opposite h)
  one_false = and-false c l (Memᴰ.head refl)

  pub one_last : S (opposite h) → S (opposite l)
  one_last p = and_last c l (Memᴰ.head refl) p (each_one _ l (λ other. absurd (other refl)))
