-- Parsers that take exactly the renderings of some values, and how they are put together.
use Prim.Native.Nat.{ℕ, zero, suc}
use mathlib.Core.Path.{◌≡◌, refl, sym, ap, subst, subst₂, ◌∙◌}
use mathlib.Core.Bool.{Bool, true, false}
use mathlib.Core.List.{List, [], ◌∷◌, ◌++◌, append_assoc}
use native.Mathlib.Omega.{arith}
use borrow.Author.Tests.{eqb-true, eq-eqb}
use lib.Dec.{eqb}
use lib.ListN.{length}
use Rattle.sheet.specs.Form.{Every, concat_map}
use Rattle.sheet.specs.Parse.{Parsed, Parser, got, broken, after, ◌>>=◌, return, exactly, times}

-- sound: what is read is good, and its bytes stood in front; complete: good values in front of any text are read
pub record Exact {A : Type 0} (p : Parser A) (Good : A → Type 0) (bytes : A → List ℕ) : Type 0 where
  pub sound : (text : List ℕ) (a : A) (rest : List ℕ) → p text ≡ got a rest → Good a × (text ≡ bytes a ++ rest)
  pub complete : (a : A) (rest : List ℕ) → Good a → p (bytes a ++ rest) ≡ got a rest

-- what is broken is no value
pub broken_got : {A : Type 0} (a : A) (rest : List ℕ) → broken ≡ got a rest → ⊥
broken_got a rest e = let z : ◌≡◌ {A = ℕ} 0 1 = cc in omega arith

-- a sequence that reads a value has read its first part
record Passed {A B : Type 0} (x : Parsed A) (next : A → Parser B) (b : B) (rest : List ℕ) : Type 0 where
  value : A
  behind : List ℕ
  first : x ≡ got value behind
  second : next value behind ≡ got b rest

passed : {A B : Type 0} (x : Parsed A) (next : A → Parser B) (b : B) (rest : List ℕ) → after x next ≡ got b rest
    → Passed x next b rest
passed (got a behind) next b rest e = record { value = a; behind = behind; first = refl; second = e }
passed broken next b rest e = absurd (broken_got b rest e)

-- the same parser under equivalent conditions and equal bytes
pub exact_as : {A : Type 0} {p : Parser A} {P Q : A → Type 0} {f g : A → List ℕ}
    → Exact p P f → ((a : A) → P a → Q a) → ((a : A) → Q a → P a) → ((a : A) → f a ≡ g a) → Exact p Q g
exact_as {p = p} x to back same =
    record {
      sound =
          λ text a rest e. (let s = x.sound text a rest e in (to a s.0, s.1 ∙ ap (λ (l : List ℕ). l ++ rest) (same a)));
      complete = λ a rest h. ap (λ (l : List ℕ). p (l ++ rest)) (sym (same a)) ∙ x.complete a rest (back a h);
    }

-- one parser after the other: the first reads a part of what the whole reads
module _ {A B : Type 0} (p : Parser A) (next : A → Parser B) (P : A → Type 0) (Q : A → B → Type 0) (f : A → List ℕ)
    (g : B → List ℕ) (part : B → A) where
  pub exact_then : Exact p P f → ((a : A) → Exact (next a) (Q a) g) → ((a : A) (b : B) → Q a b → a ≡ part b)
      → Exact (p >>= next) (λ b. P (part b) × Q (part b) b) (λ b. f (part b) ++ g b)
  exact_then x y same = record { sound = sound; complete = complete }
    where
      sound : (text : List ℕ) (b : B) (rest : List ℕ) → (p >>= next) text ≡ got b rest
          → (P (part b) × Q (part b) b) × (text ≡ (f (part b) ++ g b) ++ rest)
      sound text b rest e =
          let d = passed (p text) next b rest e in
          let s = x.sound text d.value d.behind d.first in
          let t = (y d.value).sound d.behind b rest d.second in
          let q = same d.value b t.0 in
          let whole : text ≡ (f d.value ++ g b) ++ rest =
          s.1 ∙ ap (λ (l : List ℕ). f d.value ++ l) t.1 ∙ sym (append_assoc (f d.value) (g b) rest) in
          ((subst P q s.0, subst (λ (a : A). Q a b) q t.0), subst (λ (a : A). text ≡ (f a ++ g b) ++ rest) q whole)

      complete : (b : B) (rest : List ℕ) → P (part b) × Q (part b) b
          → (p >>= next) ((f (part b) ++ g b) ++ rest) ≡ got b rest
      complete b rest h =
          ap (p >>= next) (append_assoc (f (part b)) (g b) rest)
          ∙ ap (λ (z : Parsed A). after z next) (x.complete (part b) (g b ++ rest) h.0)
          ∙ (y (part b)).complete b rest h.1

-- nothing is read, and the value is known
pub exact_return : {A : Type 0} (a : A) → Exact (return a) (λ b. a ≡ b) (λ b. [])
exact_return {A = A} a =
    record {
      sound = λ text b rest e. (let same : a ≡ b = cc in let behind : text ≡ rest = cc in (same, behind));
      complete = λ b rest h. ap (λ (c : A). got c rest) h;
    }

-- fixed bytes, one by one: a byte that is there, and another byte
pub exactly_step : (b : ℕ) (bs : List ℕ) (x : ℕ) (text : List ℕ) → b ≡ x → exactly (b ∷ bs) (x ∷ text) ≡ exactly bs text
unfolding exactly
exactly_step b bs x text e = rw (eq-eqb x b (sym e), exactly)

pub exactly_off : (b : ℕ) (bs : List ℕ) (x : ℕ) (text : List ℕ) → eqb x b ≡ false → exactly (b ∷ bs) (x ∷ text) ≡ broken
unfolding exactly
exactly_off b bs x text e = rw (e, exactly)

exactly_sound : (bs text : List ℕ) (u : Unit {0}) (rest : List ℕ) → exactly bs text ≡ got u rest → text ≡ bs ++ rest
unfolding exactly
exactly_sound [] text u rest e = cc
exactly_sound (b ∷ bs) [] u rest e = absurd (broken_got u rest e)
exactly_sound (b ∷ bs) (x ∷ text) u rest e = go (eqb x b) refl (exactly_sound bs text u rest)
  where
    go : (t : Bool) → eqb x b ≡ t → (exactly bs text ≡ got u rest → text ≡ bs ++ rest) → x ∷ text ≡ b ∷ (bs ++ rest)
    go true p again =
        let same : x ≡ b = eqb-true x b p in
        let after_it : text ≡ bs ++ rest = again (sym (exactly_step b bs x text (sym same)) ∙ e) in
        cc
    go false p again = absurd (broken_got u rest (sym (exactly_off b bs x text p) ∙ e))

exactly_complete : (bs rest : List ℕ) → exactly bs (bs ++ rest) ≡ got tt rest
unfolding exactly
exactly_complete [] rest = refl
exactly_complete (b ∷ bs) rest = exactly_step b bs b (bs ++ rest) refl ∙ exactly_complete bs rest

-- fixed bytes are exact
pub exact_bytes : (bs : List ℕ) → Exact (exactly bs) (λ u. Unit {0}) (λ u. bs)
exact_bytes bs = record {
  sound = λ text u rest e. (tt, exactly_sound bs text u rest e);
  complete = λ u rest h. exactly_complete bs rest;
}

-- so many values, one behind the other
module _ {A : Type 0} (p : Parser A) (P : A → Type 0) (f : A → List ℕ) (x : Exact p P f) where
  Many : ℕ → List A → List ℕ → List ℕ → Type 0
  Many count xs text rest = ((length xs ≡ count) × Every P xs) × (text ≡ concat_map f xs ++ rest)

  many_more : (count : ℕ) (a : A) (later : List A) (text behind rest : List ℕ) → P a → text ≡ f a ++ behind
      → Many count later behind rest → Many (suc count) (a ∷ later) text rest
  unfolding Many concat_map
  many_more count a later text behind rest h e m = (
    (ap suc m.0.0, (h, m.0.1)),
    e ∙ ap (λ (l : List ℕ). f a ++ l) m.1
        ∙ sym (append_assoc (f a) (concat_map f later) rest),
  )

  times_sound : (count : ℕ) (text : List ℕ) (xs : List A) (rest : List ℕ) → times count p text ≡ got xs rest
      → Many count xs text rest
  unfolding Many times concat_map
  times_sound zero text xs rest e =
      let none : [] ≡ xs = cc in
      let same : text ≡ rest = cc in
      subst (λ (l : List A). ((length l ≡ 0) × Every P l) × (text ≡ concat_map f l ++ rest)) none ((refl, tt), same)
  times_sound (suc count) text xs rest e =
      let d = passed (p text) (λ a. times count p >>= (λ later. return (a ∷ later))) xs rest e in
      let t = passed (times count p d.behind) (λ later. return (d.value ∷ later)) xs rest d.second in
      let m = times_sound count d.behind t.value t.behind t.first in
      let s = x.sound text d.value d.behind d.first in
      let same : d.value ∷ t.value ≡ xs = cc in
      let behind : t.behind ≡ rest = cc in
      subst₂ (λ (l : List A) (r : List ℕ). Many (suc count) l text r) same behind
      (many_more count d.value t.value text d.behind t.behind s.0 s.1 m)

  times_complete : (count : ℕ) (xs : List A) (rest : List ℕ) → (length xs ≡ count) × Every P xs
      → times count p (concat_map f xs ++ rest) ≡ got xs rest
  unfolding times concat_map
  times_complete zero [] rest h = refl
  times_complete zero (a ∷ later) rest h = absurd (omega (arith, h.0))
  times_complete (suc count) [] rest h = absurd (omega (arith, h.0))
  times_complete (suc count) (a ∷ later) rest h =
      ap (λ (l : List ℕ). times (suc count) p l) (append_assoc (f a) (concat_map f later) rest)
      ∙ ap (λ (z : Parsed A). after z (λ b. times count p >>= (λ bs. return (b ∷ bs))))
      (x.complete a (concat_map f later ++ rest) h.1.0)
      ∙ ap (λ (z : Parsed (List A)). after z (λ bs. return (a ∷ bs)))
      (times_complete count later rest (omega (arith, h.0), h.1.1))

  -- so many values are exact when each is
  pub exact_times : (count : ℕ) → Exact (times count p) (λ xs. (length xs ≡ count) × Every P xs) (concat_map f)
  unfolding Many
  exact_times count = record { sound = times_sound count; complete = times_complete count }
