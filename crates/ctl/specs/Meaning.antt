-- What a formula of CTL means at a state, over infinite paths: Specification, "Rules".
use Rattle.std.specs.Prelude.{ℕ, zero, suc, ◌<◌, ◌≡◌, ◌⊎◌}

-- A rule, as the tree that its root node unfolds to: kinds 0 to 15 in order.
pub data Formula : Type 0 where
  bottom top : Formula
  proposition : ℕ → Formula
  neg : Formula → Formula
  both either : Formula → Formula → Formula
  ax ex : Formula → Formula
  av ev au eu : Formula → Formula → Formula
  af ef ag eg : Formula → Formula

-- a fullpath from s: an infinite sequence of states joined by kept steps. `next s t`: a kept step leads from s to t
pub record Fullpath (next : ℕ → ℕ → Type 0) (s : ℕ) (π : ℕ → ℕ) : Type 0 where
  pub starts : π zero ≡ s
  pub steps : (k : ℕ) → next (π k) (π (suc k))

-- a V b along a path: at each place k, if a fails at all places before k, then b holds at k
abbrev pub Released : (ℕ → Type 0) → (ℕ → Type 0) → (ℕ → ℕ) → Type 0
Released a b π = (k : ℕ) → ((j : ℕ) → j < k → ¬ a (π j)) → b (π k)

-- a U b along a path: b holds at some place, and a at all places before it
abbrev pub UntilAlong : (ℕ → Type 0) → (ℕ → Type 0) → (ℕ → ℕ) → Type 0
UntilAlong a b π = (k : ℕ) × b (π k) × ((j : ℕ) → j < k → a (π j))

-- F b and G b along a path: b holds at some place, and at every place
abbrev pub EventuallyAlong : (ℕ → Type 0) → (ℕ → ℕ) → Type 0
EventuallyAlong b π = (k : ℕ) × b (π k)

abbrev pub AlwaysAlong : (ℕ → Type 0) → (ℕ → ℕ) → Type 0
AlwaysAlong b π = (k : ℕ) → b (π k)

-- The formula holds at s, in the structure of the kept steps and the labels. `labelled s p`: proposition p is in the
-- label of s
module _ (next : ℕ → ℕ → Type 0) (labelled : ℕ → ℕ → Type 0) where
  unfoldable pub Holds : Formula → ℕ → Type 0
  Holds bottom s = ⊥
  Holds top s = Unit {0}
  Holds (proposition p) s = labelled s p
  Holds (neg a) s = ¬ Holds a s
  Holds (both a b) s = Holds a s × Holds b s
  Holds (either a b) s = Holds a s ⊎ Holds b s
  Holds (ax a) s = (t : ℕ) → next s t → Holds a t
  Holds (ex a) s = (t : ℕ) × next s t × Holds a t
  Holds (av a b) s = (π : ℕ → ℕ) → Fullpath next s π → Released (Holds a) (Holds b) π
  Holds (ev a b) s = (π : ℕ → ℕ) × Fullpath next s π × Released (Holds a) (Holds b) π
  Holds (au a b) s = (π : ℕ → ℕ) → Fullpath next s π → UntilAlong (Holds a) (Holds b) π
  Holds (eu a b) s = (π : ℕ → ℕ) × Fullpath next s π × UntilAlong (Holds a) (Holds b) π
  Holds (af a) s = (π : ℕ → ℕ) → Fullpath next s π → EventuallyAlong (Holds a) π
  Holds (ef a) s = (π : ℕ → ℕ) × Fullpath next s π × EventuallyAlong (Holds a) π
  Holds (ag a) s = (π : ℕ → ℕ) → Fullpath next s π → AlwaysAlong (Holds a) π
  Holds (eg a) s = (π : ℕ → ℕ) × Fullpath next s π × AlwaysAlong (Holds a) π
