-- What Label and Holding promise of a call that they accept, in path meaning: which bits are set, which states stand
-- in the buffer and in which order, and that every other entry stays.
use Rattle.std.specs.Prelude.{ℕ, ◌≤◌, ◌<◌, ◌≡◌, true, false, ◌↔◌, length, get_or}
use mathlib.Core.List.{List, Memᴰ}
use Rattle.sets.specs.Member.{member}
use Rattle.table.specs.Table.{Table, initial_at}
use Rattle.table.specs.Buffer.{Written}
use Rattle.ctl.specs.Rule.{root_index}
use Rattle.ctl.specs.Kept.{Kept, NodeHolds}
use Rattle.label.specs.ReadingOrder.{InReadingOrder}

-- Label's words, before and after
pub record LabelIsExact (T : Table) (list before after : List ℕ) : Type 0 where
  pub size : length after ≡ length before
  -- bit s of entry i is set exactly when s is kept and node i holds there
  pub bits : (i : ℕ) → i < length T.nodes → (s : ℕ)
      → (member (get_or after i 0) s ≡ true) ↔ (Kept T list s × NodeHolds T list i s)
  -- the bits from the number of states on are 0
  pub high : (i : ℕ) → i < length T.nodes → (s : ℕ) → length T.states ≤ s → member (get_or after i 0) s ≡ false
  -- entries past the last node's stay
  pub rest : (i : ℕ) → length T.nodes ≤ i → get_or after i 0 ≡ get_or before i 0

-- a kept state at which the root holds
abbrev pub RootHolds : Table → List ℕ → ℕ → Type 0
RootHolds T list s = Kept T list s × NodeHolds T list (root_index T) s

-- the list has each state that has P, once, and no other
pub record EachOnce (P : ℕ → Type 0) (states : List ℕ) : Type 0 where
  pub each : (s : ℕ) → Memᴰ s states ↔ P s
  pub once : (i j : ℕ) → i < length states → j < length states → get_or states i 0 ≡ get_or states j 0 → i ≡ j

-- the states at which the root holds, in reading order
pub record RootStates (T : Table) (list states : List ℕ) : Type 0 where
  pub each_once : EachOnce (RootHolds T list) states
  pub in_order : InReadingOrder (initial_at T) states

-- Holding's count and bytes, before and after
pub record HoldingIsExact (T : Table) (list : List ℕ) (count : ℕ) (before after : List ℕ) : Type 0 where
  pub states : List ℕ
  pub theirs : RootStates T list states
  -- no other list is theirs, so no order is left free
  pub only : (others : List ℕ) → RootStates T list others → others ≡ states
  pub counted : length states ≡ count
  -- they stand at the front of the buffer, and every other entry stays
  pub written : Written states before after
