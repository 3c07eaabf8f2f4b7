-- Samples of Holding: its answer, and what a buffer of five bytes, each 9, holds after the call.
use Rattle.std.specs.Prelude.{ℕ, Bool, ◌&&◌, List, [], ◌∷◌, ◌++◌, eqb, replicate, Result, Ok, Err}
use Rattle.table.specs.declared.refusal.Refusal.{Refusal}
use Rattle.table.specs.Verdict.{refusal_number}
use Rattle.label.specs.Calls.{holding_answer, holding_buffer}
use Rattle.closure.specs.Numbered.{same_code}
use Rattle.samples.specs.Samples.{sheet}

-- a refusal's number, or 0 and a count
pub record HoldingCase : Type 0 where
  pub table : List ℕ
  pub list : List ℕ
  pub number : ℕ
  pub count : ℕ
  pub after : List ℕ

unfoldable pub gives : ℕ → ℕ → Result ℕ Refusal → Bool
gives number count (Ok k) = eqb number 0 && eqb k count
gives number count (Err r) = eqb number (refusal_number r)

unfoldable pub writes : HoldingCase → Bool
writes c =
    gives c.number c.count (holding_answer c.table c.list 5)
    && same_code (holding_buffer c.table c.list (replicate 5 9)) c.after

-- three states, of which these are initial; a loop of price 1 at each; rule true
abbrev pub loops : ℕ → ℕ → ℕ → List ℕ
loops i j k =
    (3 ∷ 3 ∷ 1 ∷ 0 ∷ []) ++ (i ∷ 0 ∷ 0 ∷ j ∷ 0 ∷ 0 ∷ k ∷ 0 ∷ 0 ∷ []) ++ (0 ∷ 0 ∷ 1 ∷ 1 ∷ 1 ∷ 1 ∷ 2 ∷ 2 ∷ 1 ∷ [])
    ++ (1 ∷ 0 ∷ 0 ∷ [])

abbrev pub held : List ℕ → List ℕ → ℕ → List ℕ → HoldingCase
held table list count after = record { table = table; list = list; number = 0; count = count; after = after }

abbrev pub refused : List ℕ → List ℕ → ℕ → HoldingCase
refused table list number = record { table = table; list = list; number = number; count = 0; after = replicate 5 9 }

abbrev pub all_loops : List ℕ
all_loops = 1 ∷ 1 ∷ 1 ∷ []

-- The sheet; then each way to be initial; then an initial state that is not kept, no state kept, and two lists that
-- are refused
abbrev pub holding_cases : List HoldingCase
holding_cases =
    held sheet (1 ∷ 1 ∷ 0 ∷ 1 ∷ []) 2 (0 ∷ 1 ∷ 9 ∷ 9 ∷ 9 ∷ [])
    ∷ held (loops 1 0 0) all_loops 3 (0 ∷ 1 ∷ 2 ∷ 9 ∷ 9 ∷ [])
    ∷ held (loops 0 1 0) all_loops 3 (1 ∷ 0 ∷ 2 ∷ 9 ∷ 9 ∷ [])
    ∷ held (loops 0 0 1) all_loops 3 (2 ∷ 0 ∷ 1 ∷ 9 ∷ 9 ∷ [])
    ∷ held (loops 1 0 1) all_loops 3 (0 ∷ 2 ∷ 1 ∷ 9 ∷ 9 ∷ [])
    ∷ held (loops 0 1 1) all_loops 3 (1 ∷ 2 ∷ 0 ∷ 9 ∷ 9 ∷ [])
    ∷ held (loops 1 1 1) all_loops 3 (0 ∷ 1 ∷ 2 ∷ 9 ∷ 9 ∷ [])
    ∷ held (loops 0 1 1) (1 ∷ 0 ∷ 1 ∷ []) 2 (2 ∷ 0 ∷ 9 ∷ 9 ∷ 9 ∷ [])
    ∷ held (loops 0 1 1) (0 ∷ 0 ∷ 0 ∷ []) 0 (9 ∷ 9 ∷ 9 ∷ 9 ∷ 9 ∷ [])
    ∷ refused (loops 0 1 1) (1 ∷ 1 ∷ []) 9
    ∷ refused sheet (1 ∷ 1 ∷ 1 ∷ 0 ∷ []) 11
    ∷ []
