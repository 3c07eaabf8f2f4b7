-- What labels promise: over infinite paths they are the meaning of the rule. What striking promises of a repair, and
-- what the judge's tests promise of any bytes. Each statement is the contract of a law (src/laws.rt).
use Rattle.std.specs.Prelude.{ℕ, ◌<◌, ◌≡◌, Bool, true, ◌↔◌, ◌⊎◌, List, length, Ok, Err}
use Rattle.table.specs.declared.operator.Family.{Family}
use Rattle.table.specs.declared.refusal.Refusal.{Refusal}
use Rattle.table.specs.Table.{Table, table_of, node_at}
use Rattle.table.specs.Facts.{Wellformed, IsTable}
use Rattle.ctl.specs.Rule.{Quantifier, operator_of, formula_of, formula}
use Rattle.ctl.specs.Kept.{IsList, Next, Kept, Total, NodeHolds, Struck, Repair, NarrowRepair}
use Rattle.ctl.specs.Price.{list_price}
use Rattle.ctl.specs.Rank.{RanksBefore, Cheapest}
use Rattle.ctl.specs.OnPaths.{OnPaths, Along}
use Rattle.ctl.specs.Levels.{has, levels}
use Rattle.ctl.specs.Labels.{targets, marked}
use Rattle.ctl.specs.Reached.{strike}
use Rattle.ctl.specs.Refused.{JudgeRefused}
use Rattle.ctl.specs.Tests.{judge_verdict}

-- under a total list, a state is marked for a node exactly when it is kept and the node holds at it
abbrev pub LabelsAreMeaning : Type 0
LabelsAreMeaning =
    (T : Table) → Wellformed T → (list : List ℕ) → Total T list → (i : ℕ) → i < length T.nodes → (s : ℕ)
    → (marked T list i s ≡ true) ↔ (Kept T list s × NodeHolds T list i s)

-- `strike` strikes what is to be struck
abbrev pub StrikeIsExact : Type 0
StrikeIsExact = (T : Table) → Wellformed T → (list : List ℕ) → Struck T list (strike T list)

-- a repair, struck, is a repair in the narrower sense
abbrev pub StrikingNarrows : Type 0
StrikingNarrows = (T : Table) → Wellformed T → (list : List ℕ) → Repair T list → NarrowRepair T (strike T list)

-- So a table has a repair in the one sense just when it has one in the other: strike the one, or take the other as it
-- is.
abbrev pub SensesAgree : Type 0
SensesAgree =
    (T : Table) → Wellformed T → ((list : List ℕ) → ¬ Repair T list) ↔ ((list : List ℕ) → ¬ NarrowRepair T list)

-- the judge accepts exactly the repairs in the narrower sense
abbrev pub JudgeIsExact : Type 0
JudgeIsExact =
    (table list : List ℕ) → (judge_verdict table list ≡ Ok tt) ↔ (IsTable table × NarrowRepair (table_of table) list)

-- and where it refuses, the refusal says what fails, and all that is tested before it holds
abbrev pub JudgeRefusesRightly : Type 0
JudgeRefusesRightly = (table list : List ℕ) (r : Refusal) → judge_verdict table list ≡ Err r → JudgeRefused table list r

-- the formula of a node is its operator on the formulas of its children
abbrev pub FormulaOfNode : Type 0
FormulaOfNode =
    (T : Table) → Wellformed T → (i : ℕ) → i < length T.nodes
    → formula T i ≡ formula_of (operator_of (node_at T i)) (formula T)

-- The level argument: for any sets of states, the last level of a fixed-point kind has a kept state exactly when the
-- kind holds along the fullpaths of kept steps from that state, of the sets.
abbrev pub LevelsArePaths : Type 0
LevelsArePaths =
    (T : Table) → Wellformed T → (list : List ℕ) → Total T list → (f : Family) (q : Quantifier) (A B : List Bool)
    → length B ≡ length T.states
    → (s : ℕ) → Kept T list s → (has (levels f q (targets T list) (length T.states) A B) s ≡ true)
    ↔ OnPaths q (Next T list) s (Along f (λ s. has A s ≡ true) (λ s. has B s ≡ true))

-- rank orders the lists of a table strictly, and of two different ones it tells which is first
pub record RankOrders (T : Table) : Type 0 where
  pub irreflexive : (l : List ℕ) → ¬ RanksBefore l l
  pub transitive : (l m k : List ℕ) → IsList T l → IsList T m → RanksBefore l m → RanksBefore m k → RanksBefore l k
  pub total : (l m : List ℕ) → IsList T l → IsList T m → (l ≡ m) ⊎ (RanksBefore l m ⊎ RanksBefore m l)

-- so no table has two repairs that are the cheapest, then first in rank
abbrev pub CheapestIsUnique : Type 0
CheapestIsUnique = (T : Table) (l m : List ℕ) → Cheapest (list_price T) (Repair T) l
    → Cheapest (list_price T) (Repair T) m → l ≡ m
