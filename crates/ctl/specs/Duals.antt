-- How the kinds of one family hang together with those of another. Nothing else rests on this: each kind has its own
-- sentence in Meaning.antt.
use Rattle.std.specs.Prelude.{ℕ, ◌<◌, ◌↔◌, List, length}
use Rattle.table.specs.Table.{Table}
use Rattle.table.specs.Facts.{Wellformed}
use Rattle.ctl.specs.Meaning.{Formula, bottom, top, neg, av, ev, au, eu, af, ef, ag, eg, Holds}
use Rattle.ctl.specs.Rule.{formula}
use Rattle.ctl.specs.Kept.{Next, Kept, Total, Labelled}

-- two formulas hold at the same states, of these steps and labels
abbrev pub Same : (ℕ → ℕ → Type 0) → (ℕ → ℕ → Type 0) → Formula → Formula → Type 0
Same next labelled a b = (s : ℕ) → Holds next labelled a s ↔ Holds next labelled b s

-- F is U with a true everywhere, and G is V with a false everywhere
pub record SpecialCases (next labelled : ℕ → ℕ → Type 0) : Type 0 where
  pub af_is : (a : Formula) → Same next labelled (af a) (au top a)
  pub ef_is : (a : Formula) → Same next labelled (ef a) (eu top a)
  pub ag_is : (a : Formula) → Same next labelled (ag a) (av bottom a)
  pub eg_is : (a : Formula) → Same next labelled (eg a) (ev bottom a)

-- This is so of any steps and labels (proofs/Duals.antt), and here of the kept steps and the labels of any table and
-- list: a contract cannot speak of every relation.
abbrev pub AreSpecialCases : Type 0
AreSpecialCases = (T : Table) (list : List ℕ) → SpecialCases (Next T list) (Labelled T)

-- the formula holds at s, with the kept steps
abbrev pub HoldsAt : Table → List ℕ → Formula → ℕ → Type 0
HoldsAt T list = Holds (Next T list) (Labelled T)

-- At the kept states of a total list, a U b is the opposite of not a V not b, of nodes a and b of the table: for A of
-- E, and for E of A.
pub record UntilIsDual (T : Table) (list : List ℕ) (a b : ℕ) : Type 0 where
  pub au_is : (s : ℕ) → Kept T list s
      → HoldsAt T list (au (formula T a) (formula T b)) s
      ↔ ¬ HoldsAt T list (ev (neg (formula T a)) (neg (formula T b))) s
  pub eu_is : (s : ℕ) → Kept T list s
      → HoldsAt T list (eu (formula T a) (formula T b)) s
      ↔ ¬ HoldsAt T list (av (neg (formula T a)) (neg (formula T b))) s

abbrev pub Duals : Type 0
Duals =
    (T : Table) → Wellformed T → (list : List ℕ) → Total T list → (a b : ℕ) → a < length T.nodes → b < length T.nodes
    → UntilIsDual T list a b
