-- What a reader had, and what stands in the buffer that it was read into.
use Rattle.std.specs.Prelude.{◌≡◌, ℕ, ◌≤◌, ◌<◌, List, length, take, ⊤, Result, Ok, Err, Option, None, Some}
use Rattle.input.specs.declared.Input.{Input}
use Rattle.input.specs.declared.Input.TheVariants.{All, More}

-- of a reader that had these bytes: all of them are at the front of the buffer, or they are more than it has room for
abbrev pub Gave : List ℕ → List ℕ → Input → Type 0
Gave bytes room (All n) = (n ≤ length room) × (take n room ≡ bytes)
Gave bytes room More = length room < length bytes

abbrev pub GaveOk : {E : Type 0} → List ℕ → List ℕ → Result Input E → Type 0
GaveOk bytes room (Ok input) = Gave bytes room input
GaveOk bytes room (Err e) = ⊤

-- the same of a reader whose bytes may not be known, as those of standard input
abbrev pub Came : {E : Type 0} → Option (List ℕ) → List ℕ → Result Input E → Type 0
Came None room r = ⊤
Came (Some bytes) room r = GaveOk bytes room r

-- the bytes are no more than k
abbrev pub CountFits : Input → ℕ → Type 0
CountFits (All n) k = n ≤ k
CountFits More k = ⊤
