-- What a level joins, by its family: it rises with the level below, it lies below b or above it, and it is the
-- opposite of what the dual family joins of the opposites.
use mathlib.Core.Path.{◌≡◌, refl}
use mathlib.Core.Bool.{Bool, true, false, not, false≢true}
use mathlib.Core.Logic.{◌⊎◌, inl, inr}
use Rattle.table.specs.declared.operator.Family.{Family}
use Rattle.table.specs.declared.operator.Family.TheVariants.{Release, Until, Eventually, Always}
use Rattle.ctl.specs.Rule.{Quantifier, every, some}
use Rattle.ctl.specs.Levels.{joined}

-- A for E, and E for A
abbrev pub other : Quantifier → Quantifier
other every = some
other some = every

-- V for U, and G for F
abbrev pub dual : Family → Family
dual Release = Until
dual Until = Release
dual Eventually = Always
dual Always = Eventually

-- a state that has the mark without its next states keeps it with them
joined-true : (f : Family) (a b : Bool) → joined f a b false ≡ true → joined f a b true ≡ true
joined-true Release true true e = refl
joined-true Release false true e = refl
joined-true Release a false e = e
joined-true Until a true e = refl
joined-true Until true false e = refl
joined-true Until false false e = e
joined-true Eventually a true e = refl
joined-true Eventually a false e = refl
joined-true Always a true e = refl
joined-true Always a false e = e

pub joined_up : (f : Family) (a b x y : Bool) → (x ≡ true → y ≡ true) → joined f a b x ≡ true → joined f a b y ≡ true
joined_up f a b true true k e = e
joined_up f a b true false k e = absurd (false≢true (k refl))
joined_up f a b false true k e = joined-true f a b e
joined_up f a b false false k e = e

-- V and G fall: their levels lie in the set of b. U and F rise: theirs have all of it.
pub falls-or_rises : (f : Family)
    → ((a b x : Bool) → joined f a b x ≡ true → b ≡ true) ⊎ ((a b x : Bool) → b ≡ true → joined f a b x ≡ true)
falls-or_rises Release = inl go
  where
    go : (a b x : Bool) → joined Release a b x ≡ true → b ≡ true
    go a true x e = refl
    go a false x e = e
falls-or_rises Until = inr go
  where
    go : (a b x : Bool) → b ≡ true → joined Until a b x ≡ true
    go a true x e = refl
    go a false x e = absurd (false≢true e)
falls-or_rises Eventually = inr go
  where
    go : (a b x : Bool) → b ≡ true → joined Eventually a b x ≡ true
    go a true x e = refl
    go a false x e = absurd (false≢true e)
falls-or_rises Always = inl go
  where
    go : (a b x : Bool) → joined Always a b x ≡ true → b ≡ true
    go a true x e = refl
    go a false x e = e

-- a mark comes from b or from the next states
pub joined_source : (f : Family) (a b x : Bool) → joined f a b x ≡ true → (b ≡ true) ⊎ (x ≡ true)
joined_source f a true x e = inl refl
joined_source Release a false x e = absurd (false≢true e)
joined_source Until true false x e = inr e
joined_source Until false false x e = absurd (false≢true e)
joined_source Eventually a false x e = inr e
joined_source Always a false x e = absurd (false≢true e)

pub joined_dual : (f : Family) (a b x : Bool) → joined (dual f) (not a) (not b) (not x) ≡ not (joined f a b x)
joined_dual Release true true x = refl
joined_dual Release false true x = refl
joined_dual Release a false x = refl
joined_dual Until a true x = refl
joined_dual Until true false x = refl
joined_dual Until false false x = refl
joined_dual Eventually a true x = refl
joined_dual Eventually a false x = refl
joined_dual Always a true x = refl
joined_dual Always a false x = refl
