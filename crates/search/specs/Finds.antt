-- The cheapest find as the code has it: what it is compared with, what is answered and written of it, and when it is
-- that of the search.
use Rattle.std.specs.Prelude.{ℕ, ◌≡◌, Bool, true, List, ◌++◌, ltb, length, take, drop, Option, Result, Ok, Err}
pub use Rattle.std.specs.Prelude.{None as NoFind, Some as LeastPrice}
use Rattle.table.specs.Table.{Table}
use Rattle.search.specs.declared.best.Passed.{Passed}
use Rattle.search.specs.declared.best.Cut.{Cut}
use Rattle.search.specs.declared.choices.Choices.{Choices}
use Rattle.search.specs.declared.answer.Answer.{Answer}
use Rattle.search.specs.declared.answer.Answer.TheVariants.{Found, None, Spent}
use Rattle.search.specs.Search.{Best, unfound, find, Walked, passed, cut}
use Rattle.search.specs.TableSearch.{list_of}

-- the price of the cheapest find, or none
abbrev pub Held : Type 0
Held = Option ℕ

-- where a part of the search has ended: passed with the cheapest find and the record of choices, or cut with the record
abbrev pub Finished : Type 0
Finished = Result Passed Cut

-- ---- what the code makes of it

abbrev pub beats : ℕ → Held → Bool
beats price NoFind = true
beats price (LeastPrice least) = ltb price least

-- the answer, with the number of settled steps that it carries
abbrev pub finished : ℕ → Finished → Answer
finished settled (Ok p) = elim p.best [
  | NoFind ↦ None p.choices.made settled
  | LeastPrice price ↦ Found price p.choices.made settled
]
finished settled (Err c) = Spent c.choices.made settled

-- the lent list afterwards, of e steps: the find stands at the front, and the rest stays
abbrev pub written : ℕ → Finished → List ℕ → List ℕ → List ℕ
written e (Ok p) bytes list = elim p.best [ NoFind ↦ list | LeastPrice price ↦ take e bytes ++ drop e list ]
written e (Err c) bytes list = list

-- ---- it is that of the search: the price and the bytes are those of the marks

abbrev pub Stores : Table → Best → Held → List ℕ → Type 0
Stores T unfound NoFind bytes = Unit {0}
Stores T unfound (LeastPrice q) bytes = ⊥
Stores T (find m p) NoFind bytes = ⊥
Stores T (find m p) (LeastPrice q) bytes = (q ≡ p) × (take (length T.steps) bytes ≡ list_of T m)

-- a record of so many choices, under this cap
abbrev pub Records : ℕ → ℕ → Choices → Type 0
Records cap c choices = (choices.made ≡ c) × (choices.cap ≡ cap)

-- and so is where a part of the search has ended: the record handed back has its choices, under the cap that it had
abbrev pub Gives : Table → ℕ → Walked → List ℕ → Finished → Type 0
Gives T cap (passed b c) bytes (Ok p) = Stores T b p.best bytes × Records cap c p.choices
Gives T cap (passed b c) bytes (Err d) = ⊥
Gives T cap (cut c) bytes (Ok p) = ⊥
Gives T cap (cut c) bytes (Err d) = Records cap c d.choices
