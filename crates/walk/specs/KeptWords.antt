-- The lent words: room for a closure, and the words of the levels kept for later.
use Rattle.std.specs.Prelude.{ℕ, ◌+◌, ◌≤◌, ◌<◌, ◌≡◌, List, length, get_or}
use Rattle.table.specs.Table.{Table}
use Rattle.readers.specs.Readers.{word_total}
use Rattle.closure.specs.Knowledge.{level_total}

-- how many words a closure needs: those of the levels, and behind them those of the states to look at
abbrev pub room_total : Table → ℕ
room_total T = level_total T + word_total T

-- From some place on the words are those of the levels, with room for a closure; what stands before that place has
-- stayed.
pub record Keeps (levels room : ℕ) (before after : List ℕ) (from : ℕ) : Type 0 where
  pub size : length after ≡ length before
  pub room_left : from + room ≤ length before
  pub stays : (k : ℕ) → k < from → get_or after k 0 ≡ get_or before k 0
  pub copy : (k : ℕ) → k < levels → get_or after (from + k) 0 ≡ get_or before k 0
