-- What the code answers, by what the search of a table gives; and what is read of an answer: its number, the choices,
-- the price and the settled steps that it carries.
use Rattle.std.specs.Prelude.{ℕ, List, ◌++◌, length, drop, Option, Some, None}
use Rattle.table.specs.declared.refusal.Refusal.{Refusal}
use Rattle.table.specs.Table.{Table}
use Rattle.table.specs.Verdict.{refusal_number}
use Rattle.search.specs.declared.answer.Answer.{Answer}
use Rattle.search.specs.declared.answer.Answer.TheVariants.{Found, None as NoRepair, Spent, Refused}
use Rattle.search.specs.Search.{Outcome, found, none, spent}
use Rattle.search.specs.TableSearch.{list_of}

-- found with its price, none or spent, each with the choices and the settled steps
abbrev pub answer_of : Outcome → Answer
answer_of (found m p c k) = Found p c k
answer_of (none c k) = NoRepair c k
answer_of (spent c k) = Spent c k

-- the lent list afterwards: found writes a byte for each step, and the rest stays
abbrev pub list_after : Table → Outcome → List ℕ → List ℕ
list_after T (found m p c k) list = list_of T m ++ drop (length T.steps) list
list_after T (none c k) list = list
list_after T (spent c k) list = list

-- ---- what an answer carries

-- its number: found 0, none 14, spent 15, and refused the number of the refusal
abbrev pub answer_number : Answer → ℕ
answer_number (Found p c k) = 0
answer_number (NoRepair c k) = 14
answer_number (Spent c k) = 15
answer_number (Refused r) = refusal_number r

-- the choices made; a refusal carries none
abbrev pub answer_choices : Answer → Option ℕ
answer_choices (Found p c k) = Some c
answer_choices (NoRepair c k) = Some c
answer_choices (Spent c k) = Some c
answer_choices (Refused r) = None

-- the price: 0 for none and spent
abbrev pub answer_price : Answer → Option ℕ
answer_price (Found p c k) = Some p
answer_price (NoRepair c k) = Some 0
answer_price (Spent c k) = Some 0
answer_price (Refused r) = None

-- how many steps the closure of nothing settles
abbrev pub answer_settled : Answer → Option ℕ
answer_settled (Found p c k) = Some k
answer_settled (NoRepair c k) = Some k
answer_settled (Spent c k) = Some k
answer_settled (Refused r) = None

-- ---- which answer it is

abbrev pub IsFound : Answer → Type 0
IsFound (Found p c k) = Unit {0}
IsFound (NoRepair c k) = ⊥
IsFound (Spent c k) = ⊥
IsFound (Refused r) = ⊥

abbrev pub IsNone : Answer → Type 0
IsNone (Found p c k) = ⊥
IsNone (NoRepair c k) = Unit {0}
IsNone (Spent c k) = ⊥
IsNone (Refused r) = ⊥

abbrev pub IsSpent : Answer → Type 0
IsSpent (Found p c k) = ⊥
IsSpent (NoRepair c k) = ⊥
IsSpent (Spent c k) = Unit {0}
IsSpent (Refused r) = ⊥

-- where it is found, something holds of its price
abbrev pub IfFound : Answer → (ℕ → Type 0) → Type 0
IfFound (Found p c k) Holds = Holds p
IfFound (NoRepair c k) Holds = Unit {0}
IfFound (Spent c k) Holds = Unit {0}
IfFound (Refused r) Holds = Unit {0}

-- where it is refused, something holds of the refusal
abbrev pub IfRefused : Answer → (Refusal → Type 0) → Type 0
IfRefused (Found p c k) Holds = Unit {0}
IfRefused (NoRepair c k) Holds = Unit {0}
IfRefused (Spent c k) Holds = Unit {0}
IfRefused (Refused r) Holds = Holds r
