-- Bytes stored in a text from a place on.
use Rattle.std.specs.Prelude.{ℕ, ◌+◌, ◌≤◌, ◌≡◌, List, length}
use Rattle.std.proofs.lemmas.List.Edits.{sets}

-- bytes have room in a text from a place on
abbrev pub HasRoom : List ℕ → ℕ → List ℕ → Type 0
HasRoom text at bytes = at + length bytes ≤ length text

-- bytes were stored from a place on, and `next` is the place behind them
pub record Stored (before : List ℕ) (at : ℕ) (bytes after : List ℕ) (next : ℕ) : Type 0 where
  pub place : next ≡ at + length bytes
  pub text : after ≡ sets before at bytes
