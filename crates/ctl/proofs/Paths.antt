-- Level n of release and the fullpaths, both ways: where it holds, a V b holds along every fullpath (A) or along one
-- (E); where it fails, not a U not b does along one (A) or along every one (E). A state is kept when a kept step
-- leaves it.
use Prim.Native.Nat.{ℕ, zero, suc, ◌<◌}
use native.Mathlib.Nat.{not-suc-le-zero, le_of_suc-le-suc}
use native.Mathlib.Omega.{arith}
use mathlib.Core.Path.{◌≡◌, refl, sym, ◌∙◌}
use mathlib.Core.Bool.{Bool, true, false, true≢false, false≢true}
use mathlib.Core.Logic.{◌↔◌, ◌⊎◌, inl, inr, ⊎_elim}
use mathlib.Core.List.Memᴰ
use mathlib.Core.List.{List, [], ◌∷◌, Memᴰ}
use lib.ListN.{length}
use Rattle.table.specs.declared.operator.Family.TheVariants.{Release}
use Rattle.table.specs.Accept.{all}
use Rattle.table.proofs.Bools.{not_so}
use Rattle.ctl.specs.Meaning.{Fullpath, Released, UntilAlong}
use Rattle.ctl.specs.Rule.{Quantifier, every, some}
use Rattle.ctl.specs.Levels.{has, iterate, next_in, joined, level, levels}
use Rattle.ctl.specs.OnPaths.{OnPaths}
use Rattle.ctl.proofs.Tabulate.{all_true, all-false, any-true}
use Rattle.ctl.proofs.Stable.{level_mark, levels_fixed}
use Rattle.ctl.proofs.Joined.{other}

-- it fails at a state
abbrev pub Not : (ℕ → Type 0) → ℕ → Type 0
Not a s = ¬ a s

-- ---- fullpaths

-- the state s, and then the path π
abbrev pub before : ℕ → (ℕ → ℕ) → ℕ → ℕ
before s π zero = s
before s π (suc k) = π k

module _ (next : ℕ → ℕ → Type 0) where
  -- a step into the start of a fullpath makes a longer one
  pub before_fullpath : (s : ℕ) {u : ℕ} {π : ℕ → ℕ} → next s u → Fullpath next u π → Fullpath next s (before s π)
  before_fullpath s {u} {π} h path = record { starts = refl; steps = go }
    where
      go : (k : ℕ) → next (before s π k) (before s π (suc k))
      go zero = rw path.starts h
      go (suc k) = path.steps k

  module _ (total : (s t : ℕ) → next s t → (u : ℕ) × next t u) where
    -- where each kept state has a step in R, a fullpath of such steps leaves it
    pub follow_by : (R : ℕ → ℕ → Type 0) → ((s t : ℕ) → next s t → (u : ℕ) × next s u × R s u)
        → (s t : ℕ) → next s t → (π : ℕ → ℕ) × Fullpath next s π × ((k : ℕ) → R (π k) (π (suc k)))
    follow_by R choose s t h = (λ k. (at k).0, record { starts = refl; steps = λ k. (step k).1 }, λ k. (step k).2)
      where
        -- a kept state at each place
        at : ℕ → (u : ℕ) × ((v : ℕ) × next u v)
        at zero = (s, (t, h))
        at (suc k) = let c = choose (at k).0 (at k).1.0 (at k).1.1 in (c.0, total (at k).0 c.0 c.1)

        step : (k : ℕ) → (u : ℕ) × next (at k).0 u × R (at k).0 u
        step k = choose (at k).0 (at k).1.0 (at k).1.1

    -- a fullpath leaves each kept state
    pub follow : (s t : ℕ) → next s t → (π : ℕ → ℕ) × Fullpath next s π
    follow s t h = let p = follow_by (λ s t. Unit {0}) (λ s t h. (t, h, tt)) s t h in (p.0, p.1)

-- ---- AX and EX at a kept state

-- AX at a state with a next state
next_all : (X : List Bool) {t : ℕ} (ts : List ℕ) → Memᴰ t ts → next_in every X ts ≡ all (has X) ts
unfolding next_in all
next_all X [] m = absurd (Memᴰ.not-nil m)
next_all X (t ∷ ts) m = refl

module _ (next : ℕ → ℕ → Type 0) (targets : ℕ → List ℕ) (sound : (s t : ℕ) → Memᴰ t (targets s) → next s t)
    (complete : (s t : ℕ) → next s t → Memᴰ t (targets s)) where
  -- AX of a set: each next state is in it
  pub next_every : (X : List Bool) (s t : ℕ) → next s t
      → (next_in every X (targets s) ≡ true) ↔ ((u : ℕ) → next s u → has X u ≡ true)
  next_every X s t h = rw (next_all X (targets s) (complete s t h)) (
    λ e u g. (all_true (has X) (targets s)).0 e u (complete s u g),
    λ k. (all_true (has X) (targets s)).1 (λ u m. k u (sound s u m)),
  )

  -- where AX of a set fails: a next state outside the set
  pub next_outside : (X : List Bool) (s t : ℕ) → next s t → next_in every X (targets s) ≡ false
      → (u : ℕ) × next s u × (has X u ≡ false)
  next_outside X s t h e =
      let r = all-false (has X) (targets s) (sym (next_all X (targets s) (complete s t h)) ∙ e) in
      (r.0, sound s r.0 r.1, r.2)

  -- EX of a set: a next state is in it
  pub next_some : (X : List Bool) (s : ℕ)
      → (next_in some X (targets s) ≡ true) ↔ ((u : ℕ) × next s u × (has X u ≡ true))
  unfolding next_in
  next_some X s = (
    λ e. let r = (any-true (has X) (targets s)).0 e in (r.0, sound s r.0 r.1, r.2),
    λ r. (any-true (has X) (targets s)).1 (r.0, complete s r.0 r.1, r.2),
  )

  -- where EX of a set fails: each next state is outside the set
  next_none : (X : List Bool) (s : ℕ) → next_in some X (targets s) ≡ false → (u : ℕ) → next s u → has X u ≡ false
  next_none X s e u h = not_so (has X u) (λ m. true≢false (sym ((next_some X s).1 (u, h, m)) ∙ e))

-- ---- release and until along a path

-- until is met at the start
until_here : (a b : ℕ → Type 0) (π : ℕ → ℕ) → b (π zero) → UntilAlong a b π
until_here a b π here = (zero, here, λ j h. absurd (not-suc-le-zero h))

-- or along the rest, where a holds at the start
until_later : (a b : ℕ → Type 0) (π : ℕ → ℕ) → a (π zero) → UntilAlong a b (λ k. π (suc k)) → UntilAlong a b π
until_later a b π here u = (suc u.0, u.1, go)
  where
    go : (j : ℕ) → j < suc u.0 → a (π j)
    go zero h = here
    go (suc j) h = u.2 j (le_of_suc-le-suc h)

-- ---- a level of release

release_true : (x y z : Bool) → (joined Release x y z ≡ true) ↔ ((y ≡ true) × (¬ (x ≡ true) → z ≡ true))
release_true x false z = (λ e. absurd (false≢true e), λ r. r.0)
release_true true true z = (λ e. (refl, λ f. absurd (f refl)), λ r. refl)
release_true false true z = (λ e. (refl, λ f. e), λ r. r.1 false≢true)

release_false : (x y z : Bool) → joined Release x y z ≡ false → (y ≡ false) ⊎ ((x ≡ false) × (z ≡ false))
release_false x false z e = inl refl
release_false true true z e = absurd (true≢false e)
release_false false true z e = inr (refl, e)

-- ---- level n and the fullpaths

module _ (n : ℕ) (next : ℕ → ℕ → Type 0) (targets : ℕ → List ℕ)
    (sound : (s t : ℕ) → Memᴰ t (targets s) → next s t)
    (complete : (s t : ℕ) → next s t → Memᴰ t (targets s))
    (inside : (s t : ℕ) → next s t → s < n)
    (total : (s t : ℕ) → next s t → (u : ℕ) × next t u)
    (A B : List Bool) (size : length B ≡ n) (a b : ℕ → Type 0)
    (A-is : (s t : ℕ) → next s t → (has A s ≡ true) ↔ a s)
    (B-is : (s t : ℕ) → next s t → (has B s ≡ true) ↔ b s)
  where
    abbrev at_level : Quantifier → ℕ → List Bool
    at_level q m = iterate (level Release q targets n A B) B m

    abbrev level_n : Quantifier → List Bool
    level_n q = levels Release q targets n A B

    -- a step that stays in level n if a fails at its start
    abbrev Stays : Quantifier → ℕ → ℕ → Type 0
    Stays q s u = has (level_n q) s ≡ true → ¬ a s → has (level_n q) u ≡ true

    -- a kept state is in level n, which is the level below itself: b holds at it and, where a fails, level n holds at
    -- the next states
    level_n_true : (q : Quantifier) (s t : ℕ) → next s t → has (level_n q) s ≡ true
        → b s × (¬ a s → next_in q (level_n q) (targets s) ≡ true)
    level_n_true q s t h e =
        let r = (release_true (has A s) (has B s) _).0
        (sym (level_mark Release q targets n A B (level_n q) s (inside s t h))
        ∙ rw (levels_fixed Release q targets n A B size) e) in
        ((B-is s t h).0 r.0, λ fails. r.1 (λ m. fails ((A-is s t h).0 m)))

    -- a kept state is in no level m + 1: b fails at it, or a does and level m at the next states
    level-false : (q : Quantifier) (X : List Bool) (s t : ℕ) → next s t
        → has (level Release q targets n A B X) s ≡ false
        → Not b s ⊎ (Not a s × (next_in q X (targets s) ≡ false))
    level-false q X s t h e = ⊎_elim
        (λ f. inl (λ x. true≢false (sym ((B-is s t h).1 x) ∙ f)))
        (λ r. inr (λ x. true≢false (sym ((A-is s t h).1 x) ∙ r.0), r.1))
        (release_false (has A s) (has B s) _ (sym (level_mark Release q targets n A B X s (inside s t h)) ∙ e))

    -- ---- where level n holds

    -- a path of steps that stay is released from level n
    stays_released : (q : Quantifier) (π : ℕ → ℕ) → ((k : ℕ) → next (π k) (π (suc k)))
        → ((k : ℕ) → Stays q (π k) (π (suc k)))
        → has (level_n q) (π zero) ≡ true → Released a b π
    stays_released q π steps stays start k none = (level_n_true q (π k) (π (suc k)) (steps k) (go k none)).0
      where
        go : (k : ℕ) → ((j : ℕ) → j < k → ¬ a (π j)) → has (level_n q) (π k) ≡ true
        go zero none = start
        go (suc k) none = stays k (go k (λ j h. none j (omega arith))) (none k (omega arith))

    -- for A each step stays
    every_stays : (s u : ℕ) → next s u → Stays every s u
    every_stays s u h e fails =
        (next_every next targets sound complete (level_n every) s u h).0 ((level_n_true every s u h e).1 fails) u h

    -- for E a step stays, of those that leave a kept state
    some_stays : (s t : ℕ) → next s t → (u : ℕ) × next s u × Stays some s u
    some_stays s t h = go (next_in some (level_n some) (targets s)) refl
      where
        go : (v : Bool) → next_in some (level_n some) (targets s) ≡ v → (u : ℕ) × next s u × Stays some s u
        go true e = let r = (next_some next targets sound complete (level_n some) s).0 e in (r.0, r.1, λ g fails. r.2)
        go false e = (t, h, λ g fails. absurd (true≢false (sym ((level_n_true some s t h g).1 fails) ∙ e)))

    -- ---- where a level fails

    -- where b fails, along any fullpath
    fails_here : (s t : ℕ) → next s t → Not b s → OnPaths some next s (UntilAlong (Not a) (Not b))
    fails_here s t h f = let p = follow next total s t h in (p.0, p.1, until_here (Not a) (Not b) p.0 (rw p.1.starts f))

    -- from a kept state outside a level of A, a fullpath along which not a U not b
    every_fails : (m : ℕ) (s t : ℕ) → next s t → has (at_level every m) s ≡ false
        → OnPaths some next s (UntilAlong (Not a) (Not b))
    unfolding iterate
    every_fails zero s t h e = fails_here s t h (λ x. true≢false (sym ((B-is s t h).1 x) ∙ e))
    every_fails (suc m) s t h e = ⊎_elim (fails_here s t h) (λ r.
        let o = next_outside next targets sound complete (at_level every m) s t h r.1 in
        let v = total s o.0 o.1 in
        let p = every_fails m o.0 v.0 v.1 o.2 in
        (before s p.0, before_fullpath next s o.1 p.1, until_later (Not a) (Not b) (before s p.0) r.0 p.2))
        (level-false every (at_level every m) s t h e)

    -- along each fullpath from a state outside a level of E, not a U not b
    some_fails : (m : ℕ) (π : ℕ → ℕ) → ((k : ℕ) → next (π k) (π (suc k))) → has (at_level some m) (π zero) ≡ false
        → UntilAlong (Not a) (Not b) π
    unfolding iterate
    some_fails zero π steps e =
        until_here (Not a) (Not b) π (λ x. true≢false (sym ((B-is (π zero) (π 1) (steps zero)).1 x) ∙ e))
    some_fails (suc m) π steps e = ⊎_elim (until_here (Not a) (Not b) π) (λ r.
        until_later (Not a) (Not b) π r.0 (some_fails m (λ k. π (suc k)) (λ k. steps (suc k))
        (next_none next targets sound complete (at_level some m) (π zero) r.1 (π 1) (steps zero))))
        (level-false some (at_level some m) (π zero) (π 1) (steps zero) e)

    -- ---- both

    -- At a kept state in level n, a V b holds along the fullpaths.
    pub release_holds : (q : Quantifier) (s t : ℕ) → next s t → has (levels Release q targets n A B) s ≡ true
        → OnPaths q next s (Released a b)
    unfolding levels
    release_holds every s t h e = λ π path.
        stays_released every π path.steps (λ k. every_stays (π k) (π (suc k)) (path.steps k)) (rw path.starts e)
    release_holds some s t h e =
        let p = follow_by next total (Stays some) some_stays s t h in
        (p.0, p.1, stays_released some p.0 p.1.steps p.2 (rw p.1.starts e))

    -- At a kept state outside level n, not a U not b does, with the other quantifier.
    pub release_fails : (q : Quantifier) (s t : ℕ) → next s t → has (levels Release q targets n A B) s ≡ false
        → OnPaths (other q) next s (UntilAlong (Not a) (Not b))
    unfolding levels
    release_fails every s t h e = every_fails n s t h e
    release_fails some s t h e = λ π path. some_fails n π path.steps (rw path.starts e)
