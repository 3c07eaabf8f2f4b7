-- What the numbers that C lends hold after a call.
use Rattle.std.specs.Prelude.{ℕ, ◌≡◌, Result, Ok, Err}
use Rattle.std.specs.Prelude.{Option, None as none, Some as some}
use Rattle.table.specs.declared.refusal.Refusal.{Refusal}
use Rattle.search.specs.declared.answer.Answer.{Answer}
use Rattle.search.specs.declared.answer.Answer.TheVariants.{Found, None as NoRepair, Spent, Refused}
use Rattle.search.specs.Answer.{answer_choices, answer_price, answer_settled}

-- what an answer gives, and after a refusal what was there before
abbrev pub given : {A : Type 0} → Result A Refusal → A → A
given (Ok k) before = k
given (Err r) before = before

-- Holding's count: that of the states where they are given, else as it was
abbrev pub holding_count : Result ℕ Refusal → ℕ → ℕ
holding_count answer before = given answer before

-- Read's length: that of the table where it is written, else as it was
abbrev pub read_length : Result ℕ Refusal → ℕ → ℕ
read_length answer before = given answer before

-- Repair's choices, price and settled steps: those that the answer carries, and after a refusal as they were
abbrev pub stored : Option ℕ → ℕ → ℕ
stored (some c) before = c
stored none before = before

abbrev pub repair_choices : Answer → ℕ → ℕ
repair_choices answer before = stored (answer_choices answer) before

abbrev pub repair_price : Answer → ℕ → ℕ
repair_price answer before = stored (answer_price answer) before

abbrev pub repair_settled : Answer → ℕ → ℕ
repair_settled answer before = stored (answer_settled answer) before

-- ---- the same by cases of the answer, as whoever lends the numbers sees them

-- Repair's choices, price and settled steps, before the call and after it: found stores all three, none and spent the
-- price 0, and a refusal leaves each number as it was
abbrev pub RepairStores : Answer → ℕ → ℕ → ℕ → ℕ → ℕ → ℕ → Type 0
RepairStores (Found p c k) choices price settled choices' price' settled' =
    (choices' ≡ c) × ((price' ≡ p) × (settled' ≡ k))
RepairStores (NoRepair c k) choices price settled choices' price' settled' =
    (choices' ≡ c) × ((price' ≡ 0) × (settled' ≡ k))
RepairStores (Spent c k) choices price settled choices' price' settled' =
    (choices' ≡ c) × ((price' ≡ 0) × (settled' ≡ k))
RepairStores (Refused r) choices price settled choices' price' settled' =
    (choices' ≡ choices) × ((price' ≡ price) × (settled' ≡ settled))

-- Holding's count and Read's length: the number that is given, and after a refusal the one that was there
abbrev pub NumberStored : Result ℕ Refusal → ℕ → ℕ → Type 0
NumberStored (Ok k) before after = after ≡ k
NumberStored (Err r) before after = after ≡ before
