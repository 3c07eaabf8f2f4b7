-- A formula means the same over two step relations that agree on a set of states which no step leaves: a fullpath
-- from such a state stays in it, and is a fullpath of both.
use Prim.Native.Nat.{ℕ, zero, suc}
use mathlib.Core.Logic.{⊎_map}
use Rattle.table.specs.declared.operator.Family.{Family}
use Rattle.table.specs.declared.operator.Family.TheVariants.{Release, Until, Eventually, Always}
use Rattle.ctl.specs.Meaning.{
  Formula,
  bottom,
  top,
  proposition,
  neg,
  both,
  either,
  ax,
  ex,
  av,
  ev,
  au,
  eu,
  af,
  ef,
  ag,
  eg,
  Fullpath,
  Holds,
}
use Rattle.ctl.specs.Rule.{Quantifier, every, some}
use Rattle.ctl.specs.OnPaths.{OnPaths, Along}

-- the steps out of a state in R are steps of both, and lead to states in R
pub record Agree (R : ℕ → Type 0) (next other : ℕ → ℕ → Type 0) : Type 0 where
  pub there : (s t : ℕ) → R s → next s t → other s t
  pub back : (s t : ℕ) → R s → other s t → next s t
  pub stays : (s t : ℕ) → R s → next s t → R t

module _ {R : ℕ → Type 0} where
  swap : {next other : ℕ → ℕ → Type 0} → Agree R next other → Agree R other next
  swap g = record { there = g.back; back = g.there; stays = λ s t r h. g.stays s t r (g.back s t r h) }

  module _ {next other : ℕ → ℕ → Type 0} (g : Agree R next other) {s : ℕ} (r : R s) {π : ℕ → ℕ}
      (path : Fullpath next s π) where
    -- the path stays in R
    inside : (k : ℕ) → R (π k)
    inside zero = rw path.starts r
    inside (suc k) = g.stays (π k) (π (suc k)) (inside k) (path.steps k)

    carried : Fullpath other s π
    carried = record { starts = path.starts; steps = λ k. g.there (π k) (π (suc k)) (inside k) (path.steps k) }

  -- what follows along a path of R carries over from the fullpaths of the one relation to those of the other
  on_paths : (q : Quantifier) {next other : ℕ → ℕ → Type 0} → Agree R next other → {s : ℕ} → R s
      → {P Q : (ℕ → ℕ) → Type 0}
      → ((π : ℕ → ℕ) → ((k : ℕ) → R (π k)) → P π → Q π) → OnPaths q next s P → OnPaths q other s Q
  on_paths every g r up all = λ π path. up π (inside (swap g) r path) (all π (carried (swap g) r path))
  on_paths some g r up p = (p.0, carried g r p.1, up p.0 (inside g r p.1) p.2)

  -- what a family says along a path of R follows from what it says of sets that are no larger there
  along_up : (f : Family) {a b c d : ℕ → Type 0} → ((s : ℕ) → R s → a s → c s) → ((s : ℕ) → R s → b s → d s)
      → (π : ℕ → ℕ) → ((k : ℕ) → R (π k)) → Along f a b π → Along f c d π
  along_up Release ac bd π in-R r = λ k none. bd (π k) (in-R k) (r k (λ j l x. none j l (ac (π j) (in-R j) x)))
  along_up Until ac bd π in-R u = (u.0, bd (π u.0) (in-R u.0) u.1, λ j l. ac (π j) (in-R j) (u.2 j l))
  along_up Eventually ac bd π in-R e = (e.0, bd (π e.0) (in-R e.0) e.1)
  along_up Always ac bd π in-R always = λ k. bd (π k) (in-R k) (always k)

  pub same_meaning : {next other : ℕ → ℕ → Type 0} → Agree R next other
      → (labelled : ℕ → ℕ → Type 0) (φ : Formula) (s : ℕ) → R s
      → Holds next labelled φ s → Holds other labelled φ s
  unfolding Holds
  same_meaning g L bottom s r x = x
  same_meaning g L top s r x = x
  same_meaning g L (proposition p) s r x = x
  same_meaning g L (neg a) s r x = λ y. x (same_meaning (swap g) L a s r y)
  same_meaning g L (both a b) s r x = (same_meaning g L a s r x.0, same_meaning g L b s r x.1)
  same_meaning g L (either a b) s r x = ⊎_map (same_meaning g L a s r) (same_meaning g L b s r) x
  same_meaning g L (ax a) s r x = λ t h. let i = g.back s t r h in same_meaning g L a t (g.stays s t r i) (x t i)
  same_meaning g L (ex a) s r x = (x.0, g.there s x.0 r x.1, same_meaning g L a x.0 (g.stays s x.0 r x.1) x.2)
  same_meaning g L (av a b) s r x = on_paths every g r (along_up Release (same_meaning g L a) (same_meaning g L b)) x
  same_meaning g L (ev a b) s r x = on_paths some g r (along_up Release (same_meaning g L a) (same_meaning g L b)) x
  same_meaning g L (au a b) s r x = on_paths every g r (along_up Until (same_meaning g L a) (same_meaning g L b)) x
  same_meaning g L (eu a b) s r x = on_paths some g r (along_up Until (same_meaning g L a) (same_meaning g L b)) x
  same_meaning g L (af a) s r x = on_paths every g r (along_up Eventually (same_meaning g L a) (same_meaning g L a)) x
  same_meaning g L (ef a) s r x = on_paths some g r (along_up Eventually (same_meaning g L a) (same_meaning g L a)) x
  same_meaning g L (ag a) s r x = on_paths every g r (along_up Always (same_meaning g L a) (same_meaning g L a)) x
  same_meaning g L (eg a) s r x = on_paths some g r (along_up Always (same_meaning g L a) (same_meaning g L a)) x
