-- Level n of a fixed-point kind is what the kind says of the fullpaths. Shown once, of release (Paths.antt); G is
-- release with a false everywhere, and U and F are duals of V and G: their levels are the opposites of those of the
-- dual family, with the other quantifier, of the opposite sets.
use Prim.Native.Nat.{ℕ, zero, suc, ◌<◌}
use mathlib.Core.Path.{◌≡◌, refl, sym, ap, ap₂, ◌∙◌}
use mathlib.Core.Bool.{Bool, true, false, not, ◌&&◌, ◌||◌, true≢false, false≢true, not-not}
use mathlib.Core.Logic.{◌↔◌}
use mathlib.Core.List.Memᴰ
use mathlib.Core.List.{List, [], ◌∷◌, Memᴰ}
use lib.ListN.{length}
use Rattle.table.specs.declared.operator.Family.{Family}
use Rattle.table.specs.declared.operator.Family.TheVariants.{Release, Until, Eventually, Always}
use Rattle.table.specs.Accept.{all, any}
use Rattle.ctl.specs.Meaning.{Fullpath}
use Rattle.ctl.specs.Rule.{Quantifier, every, some}
use Rattle.ctl.specs.Range.{tabulate}
use Rattle.ctl.specs.Levels.{has, iterate, next_in, joined, level, levels}
use Rattle.ctl.specs.OnPaths.{OnPaths, Along}
use Rattle.ctl.proofs.Tabulate.{length_tabulate, get_d_tabulate}
use Rattle.ctl.proofs.Stable.{level_mark}
use Rattle.ctl.proofs.Joined.{other, dual, joined_dual}
use Rattle.ctl.proofs.Paths.{Not, release_holds, release_fails}

-- ---- a family and its dual

-- what a family says, and what its dual says of the opposites, are never both so
apart_along : (f : Family) (a b : ℕ → Type 0) (π : ℕ → ℕ) → Along f a b π → Along (dual f) (Not a) (Not b) π → ⊥
apart_along Release a b π r u = u.1 (r u.0 u.2)
apart_along Until a b π u r = r u.0 (λ j h n. n (u.2 j h)) u.1
apart_along Eventually a b π e g = g e.0 e.1
apart_along Always a b π g e = e.1 (g e.0)

pub apart : (q : Quantifier) (f : Family) (next : ℕ → ℕ → Type 0) (s : ℕ) (a b : ℕ → Type 0)
    → OnPaths q next s (Along f a b) → OnPaths (other q) next s (Along (dual f) (Not a) (Not b)) → ⊥
apart every f next s a b all p = apart_along f a b p.0 (all p.0 p.1) p.2
apart some f next s a b p all = apart_along f a b p.0 p.2 (all p.0 p.1)

-- what follows along a fullpath follows along every one, or along some
on_each : (q : Quantifier) (next : ℕ → ℕ → Type 0) (s : ℕ) {P Q : (ℕ → ℕ) → Type 0}
    → ((π : ℕ → ℕ) → Fullpath next s π → P π → Q π)
    → OnPaths q next s P → OnPaths q next s Q
on_each every next s f all = λ π path. f π path (all π path)
on_each some next s f p = (p.0, p.1, f p.0 p.1 p.2)

-- AX of the opposite set is the opposite of EX, at a state with a next state
all-not : (X Y : List Bool) (ts : List ℕ) → ((u : ℕ) → Memᴰ u ts → has Y u ≡ not (has X u))
    → all (has Y) ts ≡ not (any (has X) ts)
unfolding all any
all-not X Y [] same = refl
all-not X Y (t ∷ ts) same =
    ap₂ ◌&&◌ (same t (Memᴰ.head refl)) (all-not X Y ts (λ u m. same u (Memᴰ.tail m))) ∙ go (has X t) (any (has X) ts)
  where
    go : (x y : Bool) → (not x && not y) ≡ not (x || y)
    go true y = refl
    go false y = refl

-- and the other way round
any-not : (X Y : List Bool) (ts : List ℕ) → ((u : ℕ) → Memᴰ u ts → has Y u ≡ not (has X u))
    → any (has Y) ts ≡ not (all (has X) ts)
any-not X Y ts same =
    sym (not-not (any (has Y) ts))
    ∙ ap not (sym (all-not Y X ts (λ u m. sym (not-not (has X u)) ∙ ap not (sym (same u m)))))

next_dual : (q : Quantifier) (X Y : List Bool) {t : ℕ} (ts : List ℕ) → Memᴰ t ts
    → ((u : ℕ) → Memᴰ u ts → has Y u ≡ not (has X u))
    → next_in (other q) Y ts ≡ not (next_in q X ts)
unfolding next_in all
next_dual q X Y [] m same = absurd (Memᴰ.not-nil m)
next_dual every X Y (t ∷ ts) m same = any-not X Y (t ∷ ts) same
next_dual some X Y (t ∷ ts) m same = all-not X Y (t ∷ ts) same

pub not-true_iff : (x : Bool) → (not x ≡ true) ↔ ¬ (x ≡ true)
not-true_iff true = (λ e f. false≢true e, λ f. absurd (f refl))
not-true_iff false = (λ e. false≢true, λ f. refl)

-- ---- the levels of a kind and the fullpaths

module _ (n : ℕ) (next : ℕ → ℕ → Type 0) (targets : ℕ → List ℕ)
    (sound : (s t : ℕ) → Memᴰ t (targets s) → next s t)
    (complete : (s t : ℕ) → next s t → Memᴰ t (targets s))
    (inside : (s t : ℕ) → next s t → s < n)
    (total : (s t : ℕ) → next s t → (u : ℕ) × next t u)
  where
    -- at each kept state, the mark in X says H
    abbrev Means : List Bool → (ℕ → Type 0) → Type 0
    Means X H = (s t : ℕ) → next s t → (has X s ≡ true) ↔ H s

    -- what level n says where it holds, and where it fails
    abbrev Says : Family → Quantifier → (ℕ → Type 0) → (ℕ → Type 0) → ℕ → Bool → Type 0
    Says f q a b s true = OnPaths q next s (Along f a b)
    Says f q a b s false = OnPaths (other q) next s (Along (dual f) (Not a) (Not b))

    abbrev Decides : Family → Quantifier → List Bool → List Bool → (ℕ → Type 0) → (ℕ → Type 0) → Type 0
    Decides f q A B a b = (s t : ℕ) → next s t → (v : Bool) → has (levels f q targets n A B) s ≡ v → Says f q a b s v

    release_decides : (q : Quantifier) (A B : List Bool) → length B ≡ n → (a b : ℕ → Type 0) → Means A a → Means B b
        → Decides Release q A B a b
    release_decides q A B size a b A-is B-is s t h true e =
        release_holds n next targets sound complete inside total A B size a b A-is B-is q s t h e
    release_decides q A B size a b A-is B-is s t h false e =
        release_fails n next targets sound complete inside total A B size a b A-is B-is q s t h e

    -- G is release with a false everywhere
    always_decides : (q : Quantifier) (A B : List Bool) → length B ≡ n → (a b : ℕ → Type 0) → Means B b
        → Decides Always q A B a b
    unfolding levels level
    always_decides q A B size a b B-is s t h true e = on_each q next s (λ π path r k. r k (λ j l x. x))
        (release_decides q [] B size (λ s. ⊥) b (λ s t h. (false≢true, absurd)) B-is s t h true e)
    always_decides q A B size a b B-is s t h false e = on_each (other q) next s (λ π path u. (u.0, u.1))
        (release_decides q [] B size (λ s. ⊥) b (λ s t h. (false≢true, absurd)) B-is s t h false e)

    -- ---- duals

    -- the other states
    abbrev opposite : List Bool → List Bool
    opposite X = tabulate n (λ s. not (has X s))

    opposite_mark : (X : List Bool) (s t : ℕ) → next s t → has (opposite X) s ≡ not (has X s)
    opposite_mark X s t h = get_d_tabulate n _ s false (inside s t h)

    opposite_means : (X : List Bool) (H : ℕ → Type 0) → Means X H → Means (opposite X) (Not H)
    opposite_means X H is s t h = rw (opposite_mark X s t h) (
      λ e x. (not-true_iff (has X s)).0 e ((is s t h).1 x),
      λ f. (not-true_iff (has X s)).1 (λ e. f ((is s t h).0 e)),
    )

    -- at a kept state, a level is the opposite of that of the dual family
    levels_dual : (f : Family) (q : Quantifier) (A B : List Bool) (m : ℕ) (s t : ℕ) → next s t
        → has (iterate (level (dual f) (other q) targets n (opposite A) (opposite B)) (opposite B) m) s
        ≡ not (has (iterate (level f q targets n A B) B m) s)
    unfolding iterate
    levels_dual f q A B zero s t h = opposite_mark B s t h
    levels_dual f q A B (suc m) s t h =
        level_mark (dual f) (other q) targets n (opposite A) (opposite B) _ s (inside s t h)
        ∙ ap₂ (λ (x y : Bool). joined (dual f) x y
        (next_in (other q) (iterate (level (dual f) (other q) targets n (opposite A) (opposite B)) (opposite B) m)
        (targets s)))
        (opposite_mark A s t h) (opposite_mark B s t h)
        ∙ ap (joined (dual f) (not (has A s)) (not (has B s)))
        (next_dual q (iterate (level f q targets n A B) B m) _ (targets s) (complete s t h)
        (λ u k. let g = total s u (sound s u k) in levels_dual f q A B m u g.0 g.1))
        ∙ joined_dual f (has A s) (has B s) _
        ∙ ap not (sym (level_mark f q targets n A B _ s (inside s t h)))

    level_n_dual : (f : Family) (q : Quantifier) (A B : List Bool) (s t : ℕ) → next s t → (v : Bool)
        → has (levels f q targets n A B) s ≡ v
        → has (levels (dual f) (other q) targets n (opposite A) (opposite B)) s ≡ not v
    unfolding levels
    level_n_dual f q A B s t h v e = levels_dual f q A B n s t h ∙ ap not e

    -- what is not false at a kept state is true, since its mark is one or the other
    decided : (X : List Bool) (H : ℕ → Type 0) → Means X H → (s t : ℕ) → next s t → ¬ ¬ H s → H s
    decided X H is s t h f = go (has X s) refl
      where
        go : (v : Bool) → has X s ≡ v → H s
        go true e = (is s t h).0 e
        go false e = absurd (f (λ x. true≢false (sym ((is s t h).1 x) ∙ e)))

    other_twice : (q : Quantifier) (s : ℕ) (P : (ℕ → ℕ) → Type 0) → OnPaths (other (other q)) next s P
        → OnPaths q next s P
    other_twice every s P p = p
    other_twice some s P p = p

    -- A family decides where its dual does: its level holds where that of the dual fails, and what the dual then says
    -- of opposites is undone.
    dual_decides : (f : Family) (q : Quantifier) (A B : List Bool) (a b : ℕ → Type 0)
        → ((π : ℕ → ℕ) → ((k : ℕ) → next (π k) (π (suc k))) → Along (dual (dual f)) (Not (Not a)) (Not (Not b)) π
        → Along f a b π)
        → Decides (dual f) (other q) (opposite A) (opposite B) (Not a) (Not b) → Decides f q A B a b
    dual_decides f q A B a b undo answer s t h true e =
        on_each q next s (λ π path. undo π path.steps)
        (other_twice q s _ (answer s t h false (level_n_dual f q A B s t h true e)))
    dual_decides f q A B a b undo answer s t h false e = answer s t h true (level_n_dual f q A B s t h false e)

    until_decides : (q : Quantifier) (A B : List Bool) (a b : ℕ → Type 0) → Means A a → Means B b
        → Decides Until q A B a b
    until_decides q A B a b A-is B-is = dual_decides Until q A B a b
        (λ π steps u. (u.0, decided B b B-is _ _ (steps u.0) u.1, λ j l. decided A a A-is _ _ (steps j) (u.2 j l)))
        (release_decides (other q) (opposite A) (opposite B) (length_tabulate n _) (Not a) (Not b)
        (opposite_means A a A-is) (opposite_means B b B-is))

    eventually_decides : (q : Quantifier) (A B : List Bool) (a b : ℕ → Type 0) → Means B b
        → Decides Eventually q A B a b
    eventually_decides q A B a b B-is = dual_decides Eventually q A B a b
        (λ π steps u. (u.0, decided B b B-is _ _ (steps u.0) u.1))
        (always_decides (other q) (opposite A) (opposite B) (length_tabulate n _) (Not a) (Not b)
        (opposite_means B b B-is))

    -- ---- the four families

    module _ (A B : List Bool) (size : length B ≡ n) (a b : ℕ → Type 0) (A-is : Means A a) (B-is : Means B b) where
      pub decides : (f : Family) (q : Quantifier) → Decides f q A B a b
      decides Release q = release_decides q A B size a b A-is B-is
      decides Until q = until_decides q A B a b A-is B-is
      decides Eventually q = eventually_decides q A B a b B-is
      decides Always q = always_decides q A B size a b B-is

      -- At a kept state, level n says what the kind says of the fullpaths.
      pub level_paths : (f : Family) (q : Quantifier) (s t : ℕ) → next s t
          → (has (levels f q targets n A B) s ≡ true) ↔ OnPaths q next s (Along f a b)
      level_paths f q s t h = (
        decides f q s t h true,
        λ p. go (has (levels f q targets n A B) s) refl p,
      )
        where
          go : (v : Bool) → has (levels f q targets n A B) s ≡ v → OnPaths q next s (Along f a b)
              → has (levels f q targets n A B) s ≡ true
          go true e p = e
          go false e p = absurd (apart q f next s a b p (decides f q s t h false e))
