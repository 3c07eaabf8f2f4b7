-- The forced literals, over any variables: they are the least set closed under the unit rule, every model above the
-- given literals has them, and where they settle each variable without failing they are a model.
use mathlib.Core.Path.{◌≡◌, refl, sym, subst, ◌∙◌}
use mathlib.Core.Bool.{Bool, true, false, not, true≢false, false≢true, Bool-discrete}
use mathlib.Core.Logic.{◌⊎◌, inl, inr}
use mathlib.Core.List.Memᴰ
use mathlib.Core.List.{List, [], ◌∷◌, Memᴰ}
use Rattle.circuit.specs.Logic.{Literal, opposite, Makes, Satisfies}
use Rattle.closure.specs.Closure.{Forced, given, unit, Fails}

-- ---- the unit rule

module _ {Var : Type 0} where
  -- each literal of the clause that differs from l is contradicted by Q
  abbrev pub Alone : (Literal Var → Type 0) → List (Literal Var) → Literal Var → Type 0
  Alone Q C l = (k : Literal Var) → Memᴰ k C → ¬ (k ≡ l) → Q (opposite k)

  -- Q has each literal that it leaves alone in the clause
  abbrev pub ClauseClosed : (Literal Var → Type 0) → List (Literal Var) → Type 0
  ClauseClosed Q C = (l : Literal Var) → Memᴰ l C → Alone Q C l → Q l

module _ {Var : Type 0} {F : List (List (Literal Var))} {P : Literal Var → Type 0} where
  -- the forced literals are closed under the unit rule
  pub forced_closed : (C : List (Literal Var)) → Memᴰ C F → ClauseClosed (Forced F P) C
  forced_closed C c l = unit C c

  -- every set that holds P and is closed under the unit rule has the forced literals
  pub forced_least : {Q : Literal Var → Type 0} → ((l : Literal Var) → P l → Q l)
      → ((C : List (Literal Var)) → Memᴰ C F → ClauseClosed Q C) → {l : Literal Var} → Forced F P l → Q l
  forced_least start closed (given {l = l} p) = start l p
  forced_least start closed (unit {l = l} C c h alone) =
      closed C c l h (λ k m d. forced_least start closed (alone k m d))

-- more given forces more
pub forced_monotone : {Var : Type 0} {F : List (List (Literal Var))} {P Q : Literal Var → Type 0}
    → ((l : Literal Var) → P l → Q l)
    → {l : Literal Var} → Forced F P l → Forced F Q l
forced_monotone sub = forced_least (λ l p. given (sub l p)) forced_closed

-- ---- models

not_self : (s : Bool) → ¬ (s ≡ not s)
not_self true e = true≢false e
not_self false e = false≢true e

-- a sign is not both of two opposite ones
pub not_both : {b s : Bool} → b ≡ s → ¬ (b ≡ not s)
not_both {b} {s} p q = not_self s (sym p ∙ q)

-- a sign is one of two opposite ones
pub one_of_both : (b s : Bool) → (b ≡ s) ⊎ (b ≡ not s)
one_of_both true true = inl refl
one_of_both true false = inr refl
one_of_both false true = inr refl
one_of_both false false = inl refl

module _ {Var : Type 0} (α : Var → Bool) where
  -- some literal of the clause is true
  abbrev SomeTrue : List (Literal Var) → Type 0
  SomeTrue C = (l : Literal Var) × Memᴰ l C × Makes α l

  -- a literal left alone beside a true one is true
  alone_true : (k l : Literal Var) → Makes α k → (¬ (k ≡ l) → Makes α (opposite k)) → Makes α l
  alone_true k l t others = go (Bool-discrete (α l.var) l.sign)
    where
      go : Dec (Makes α l) → Makes α l
      go (yes e) = e
      go (no n) = absurd (not_both t (others (λ e. n (subst (Makes α) e t))))

  true_closed : (C : List (Literal Var)) → SomeTrue C → ClauseClosed (Makes α) C
  true_closed C (k, h, t) l _ alone = alone_true k l t (alone k h)

  -- a model of the clauses that makes what is given true makes each forced literal true
  pub forced_sound : {F : List (List (Literal Var))} {P : Literal Var → Type 0} → Satisfies α F
      → ((l : Literal Var) → P l → Makes α l)
      → {l : Literal Var} → Forced F P l → Makes α l
  forced_sound model above = forced_least above (λ C c. true_closed C (model C c))

  -- so what fails has no model above it
  pub fails_no_model : {F : List (List (Literal Var))} {P : Literal Var → Type 0} → Satisfies α F
      → ((l : Literal Var) → P l → Makes α l)
      → ¬ Fails F P
  fails_no_model model above f = not_both (forced_sound model above f.1) (forced_sound model above f.2)

-- ---- a model from what is forced

-- the variable stands in some clause
abbrev pub Occurs : {Var : Type 0} → Var → List (List (Literal Var)) → Type 0
Occurs {Var} v F = (C : List (Literal Var)) × Memᴰ C F × (k : Literal Var) × Memᴰ k C × (k.var ≡ v)

module _ {Var : Type 0} (α : Var → Bool) where
  -- the opposite of each literal of the clause is true
  abbrev NoneTrue : List (Literal Var) → Type 0
  NoneTrue C = (k : Literal Var) → Memᴰ k C → Makes α (opposite k)

  none_cons : (x : Literal Var) (C : List (Literal Var)) → Makes α (opposite x) → NoneTrue C → NoneTrue (x ∷ C)
  none_cons x C f none k (Memᴰ.head e) = subst (λ l. Makes α (opposite l)) (sym e) f
  none_cons x C f none k (Memᴰ.tail h) = none k h

  some_or_none : (C : List (Literal Var)) → SomeTrue α C ⊎ NoneTrue C
  some_or_none [] = inr (λ k h. absurd (Memᴰ.not-nil h))
  some_or_none (x ∷ C) = go (one_of_both (α x.var) x.sign) (some_or_none C)
    where
      go : Makes α x ⊎ Makes α (opposite x) → SomeTrue α C ⊎ NoneTrue C → SomeTrue α (x ∷ C) ⊎ NoneTrue (x ∷ C)
      go (inl t) rest = inl (x, Memᴰ.head refl, t)
      go (inr f) (inl (l, h, t)) = inl (l, Memᴰ.tail h, t)
      go (inr f) (inr none) = inr (none_cons x C f none)

  -- where the closure does not fail and has each literal that α makes true, of the variables of the clauses, α is a
  -- model
  pub settled_models : {F : List (List (Literal Var))} {P : Literal Var → Type 0} → ¬ Memᴰ [] F → ¬ Fails F P
      → ((l : Literal Var) → Occurs l.var F → Makes α l → Forced F P l) → Satisfies α F
  settled_models {F} {P} full sound settled C c = go C c (some_or_none C)
    where
      against : (C : List (Literal Var)) → Memᴰ C F → NoneTrue C → (k : Literal Var) → Memᴰ k C
          → Forced F P (opposite k)
      against C c none k h = settled (opposite k) (C, c, k, h, refl) (none k h)

      clashes : (C : List (Literal Var)) → Memᴰ C F → (l : Literal Var) → Memᴰ l C → NoneTrue C → Fails F P
      clashes C c l h none = (l, unit C c h (λ k m _. against C c none k m), against C c none l h)

      go : (C : List (Literal Var)) → Memᴰ C F → SomeTrue α C ⊎ NoneTrue C → SomeTrue α C
      go C c (inl some) = some
      go [] c (inr none) = absurd (full c)
      go (x ∷ C) c (inr none) = absurd (sound (clashes (x ∷ C) c x (Memᴰ.head refl) none))
