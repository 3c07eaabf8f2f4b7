-- Where the search stands in the code, and what its functions leave. P is what was chosen, and m the marks of its
-- closure.
use Rattle.std.specs.Prelude.{ℕ, suc, ◌≤◌, ◌<◌, ◌≡◌, Bool, true, false, ◌↔◌, List, ◌∷◌, length, drop, Option}
use Rattle.table.specs.Table.{Table}
use Rattle.ctl.specs.Range.{below}
use Rattle.circuit.specs.Logic.{Literal}
use Rattle.closure.specs.Computed.{Marks, mark_at, is_known, known, marked}
use Rattle.closure.specs.Knowledge.{knowledge, Sized}
use Rattle.propagate.specs.Memory.{Memory, memory}
use Rattle.closure.specs.Closes.{step_known, Between, is_failed, Closes}
use Rattle.events.specs.Watched.{RestBut}
use Rattle.walk.specs.declared.assess.Assessed.{Assessed}
use Rattle.walk.specs.declared.assess.Assessed.TheVariants.{Ended, Unsettled}
use Rattle.search.specs.Search.{Best, undercuts, Walked, passed, capped, pursue, choose, walk}
use Rattle.search.specs.TableSearch.{mark_price}
use Rattle.search.specs.Fine.{Fine, closure_of, step_literals}
use Rattle.search.specs.Finds.{Held, Finished, Stores, Gives}

-- ---- the search of a table, from where it stands

module _ (T : Table) where
  -- the steps from j on
  abbrev pub steps_from : ℕ → List ℕ
  steps_from j = drop j (below (length T.steps))

  abbrev pub walk_from : ℕ → ℕ → List (Literal ℕ) → Marks → Best → ℕ → Walked
  walk_from cap j = walk (capped cap) (closure_of T) (mark_price T) (steps_from j)

  -- P is chosen: failed, or on from step j
  abbrev pub search_from : ℕ → ℕ → List (Literal ℕ) → Best → ℕ → Walked
  search_from cap j P best made = pursue (closure_of T) (mark_price T) P best made (walk_from cap j)

  -- step j is chosen, kept or struck
  abbrev pub try_from : Bool → ℕ → ℕ → List (Literal ℕ) → Best → ℕ → Walked
  try_from sign cap j P best made = choose (capped cap) (closure_of T) (mark_price T) (record { sign = sign; var = j })
      P best made (walk_from cap (suc j))

-- ---- where it stands

-- The step rows hold exactly what m knows of the steps, and j is the lowest step that m leaves unsettled.
pub record StandsAt (T : Table) (j : ℕ) (rows : List ℕ) (P : List (Literal ℕ)) (m : Marks) : Type 0 where
  pub fine : Fine (length T.steps) P
  pub new : Bool
  pub closed : closure_of T P ≡ marked m new
  pub exact : (i : ℕ) (sign : Bool) → i < length T.steps
      → (step_known T rows sign i ≡ true) ↔ (mark_at m i ≡ known sign)
  pub inside : j < length T.steps
  pub settled : (i : ℕ) → i < j → is_known (mark_at m i) ≡ true
  pub unsettled : is_known (mark_at m j) ≡ false

-- All rows lie between P and its closure: a try may go on from them. The cheapest find is b.
pub record GoesOn (T : Table) (j : ℕ) (M : Memory) (best : Held) (bytes : List ℕ) (P : List (Literal ℕ)) (m : Marks)
    (b : Best) : Type 0 where
  pub stands : StandsAt T j M.rows P m
  pub between : Between T (step_literals P) M
  pub stores : Stores T b best bytes

-- All cells of the rows are at rest.
abbrev pub Resting : Table → Memory → Type 0
Resting T M = RestBut T 0 (knowledge T M)

-- ---- what the functions leave

-- What comes of P: the cheapest find, whatever the cap and wherever the search goes on; or the step at which it
-- stands, cheap enough to go on and at rest.
module _ (T : Table) (best : Held) (M : Memory) (bytes : List ℕ) (P : List (Literal ℕ)) (b : Best) where
  abbrev pub Comes : Assessed → Type 0
  Comes (Ended after) = (b' : Best) × Stores T b' after bytes
      × ((cap j made : ℕ) → j ≤ length T.steps → search_from T cap j P b made ≡ passed b' made)
  Comes (Unsettled j) = (m : Marks) × GoesOn T j M best bytes P m b × (undercuts (mark_price T m) b ≡ true)
      × Resting T M

-- Of all P whose closure the rows have, whatever the words.
abbrev pub ComesOf : Table → Option ℕ → Held → List ℕ → List ℕ → List ℕ → Assessed → Type 0
ComesOf T c best rows bytes after r = (words : List ℕ) (P : List (Literal ℕ)) (b : Best) → Fine (length T.steps) P
    → Closes T (step_literals P) c (memory rows words) → (is_failed c ≡ false → Resting T (memory rows words))
    → Stores T b best bytes → Comes T best (memory rows words) after P b r

-- Of all P that the rows lie between it and its closure.
pub record ComesAfter (T : Table) (best : Held) (before M : Memory) (bytes after : List ℕ) (r : Assessed) : Type 0 where
  pub sized : Sized T M
  pub comes : (P : List (Literal ℕ)) (b : Best) → Fine (length T.steps) P → Between T (step_literals P) before
      → Stores T b best bytes
      → Comes T best M after P b r

-- A try is called where the search stands, and from wherever it may stand there gives what the search does.
module _ (Stand : List (Literal ℕ) → Marks → Best → Type 0) where
  abbrev pub Somewhere : Type 0
  Somewhere = (P : List (Literal ℕ)) × (m : Marks) × (b : Best) × Stand P m b

  -- what comes of choosing step j on top of that, kept or struck
  abbrev pub ComesFrom : Table → Bool → ℕ → Held → Memory → List ℕ → Assessed → Type 0
  ComesFrom T sign j best M after r = (P : List (Literal ℕ)) (m : Marks) (b : Best) → Stand P m b
      → Comes T best M after (record { sign = sign; var = j } ∷ P) b r

  abbrev pub GivesFrom : Table → ℕ → (List (Literal ℕ) → Marks → Best → Walked) → List ℕ → Finished → Type 0
  GivesFrom T cap from bytes r = (P : List (Literal ℕ)) (m : Marks) (b : Best) → Stand P m b
      → Gives T cap (from P m b) bytes r
