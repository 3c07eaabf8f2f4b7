-- What a buffer that a caller hands over holds after a call.
use Rattle.std.specs.Prelude.{ℕ, ◌≤◌, ◌<◌, ◌≡◌, List, ◌++◌, length, get_or, take, drop, Ok, Err}
use Rattle.table.specs.Verdict.{Verdict}

-- what was written where the verdict accepts, else what it held
abbrev pub on_accepted : {A : Type 0} → Verdict → A → A → A
on_accepted (Ok tt) written before = written
on_accepted (Err r) written before = before

-- so many of the values first, and the rest of the buffer as it was
abbrev pub over : {A : Type 0} → ℕ → List A → List A → List A
over k values buffer = take k values ++ drop k buffer

-- the same, entry by entry: the values stand at the front, and every other entry is as it was
pub record Written (values before after : List ℕ) : Type 0 where
  pub size : length after ≡ length before
  pub front : (k : ℕ) → k < length values → get_or after k 0 ≡ get_or values k 0
  pub rest : (k : ℕ) → length values ≤ k → get_or after k 0 ≡ get_or before k 0
