-- By the numbers of the tables: what each gets is what the repairer alone gives of it, under what the earlier ones
-- left.
use Prim.Native.Nat.{ℕ, zero, suc, ◌+◌, ◌-◌, ◌≤◌, ◌<◌, zero-le}
use native.Mathlib.Nat.{not-suc-le-zero, le_of_suc-le-suc, le_refl}
use native.Mathlib.Omega.{arith}
use mathlib.Core.Path.{◌≡◌, refl, sym, ap, subst, subst₂, ◌∙◌}
use mathlib.Core.List.{List, [], ◌∷◌, ◌++◌}
use lib.ListN.{
  length,
  take,
  drop,
  get_or,
  replicate,
  length-append,
  length-take,
  length-drop,
  length-replicate,
  get_or-append,
}
use lib.Seq.{length-take-le, take-append_seam, drop-append_seam, drop-drop, get_or-append-add, get_or-drop}
use Rattle.std.specs.Prelude.{Some, Ok}
use Rattle.table.specs.Table.{Table, table_of}
use Rattle.table.specs.Facts.{IsTable}
use Rattle.table.specs.Accept.{table_verdict}
use Rattle.table.proofs.Refused.{is_table}
use Rattle.ctl.specs.Reached.{strike}
use Rattle.ctl.proofs.Strike.{strike-length}
use Rattle.circuit.specs.Variables.{variable_formula}
use Rattle.search.specs.Search.{Outcome, found, none, spent}
use Rattle.search.specs.TableSearch.{search_under, list_of}
use Rattle.search.specs.Right.{choices}
use Rattle.search.specs.declared.answer.Answer.{Answer}
use Rattle.search.specs.Answer.{answer_of, answer_choices}
use Rattle.repair.specs.Effect.{written_after, repair_answer, repair_list}
use Rattle.repair.specs.Right.{LongEnough, RepairIsRight}
use Rattle.repair.proofs.Right.{every_repair_is_right}
use Rattle.batch.specs.Batch.{table_at, steps_in, steps_before, part, used, allowance}
use Rattle.batch.specs.Effect.{all_steps, answers_of, lists_after, left_after}
use Rattle.batch.specs.Right.{TableRight, answer_number_at}
use Rattle.batch.proofs.Cut.{Each}
use Rattle.batch.proofs.Allowance.{adds}
use Rattle.batch.proofs.Turn.{Turned, turned_by, long_by}

-- ---- what is written of a table is as long as its part

module _ (T : Table) (list : List ℕ) (h : length list ≡ length T.steps) where
  pub written_length : (o : Outcome) → length (written_after T o list) ≡ length T.steps
  written_length (found m p c k) =
      omega (
        arith,
        length-append (strike T (list_of T m)) (drop (length T.steps) list),
        strike-length T (list_of T m),
        length-drop (length T.steps) list,
        h,
      )
  written_length (none c k) = h
  written_length (spent c k) = h

-- the choices that an answer carries are the search's
pub carried : (o : Outcome) → answer_choices (answer_of o) ≡ Some (choices o)
carried (found m p c k) = refl
carried (none c k) = refl
carried (spent c k) = refl

-- ---- the first table

module _ (t : List ℕ) (ts : List (List ℕ)) (cap : ℕ) (lists : List ℕ) (ok : table_verdict t ≡ Ok tt)
    (room : steps_in t ≤ length lists) where
  abbrev T : Table
  T = table_of t

  abbrev before : List ℕ
  before = take (steps_in t) lists

  before_length : length before ≡ steps_in t
  before_length = length-take-le (steps_in t) lists room

  abbrev written : List ℕ
  written = written_after T (search_under T cap) before

  pub first_length : length written ≡ steps_in t
  first_length = written_length T before before_length (search_under T cap)

  abbrev zeros : List ℕ
  zeros = replicate (variable_formula T) 0

  zeros_long : variable_formula T ≤ length zeros
  zeros_long = omega (arith, length-replicate {A = ℕ} (variable_formula T) 0)

  turned : Turned t cap before zeros zeros
  turned = turned_by t cap before zeros zeros
      (long_by t cap before zeros zeros ok (omega (arith, before_length)) zeros_long zeros_long)

  first_right : RepairIsRight t cap (answer_of (search_under T cap)) before written
  first_right =
      subst (λ (a : Answer). RepairIsRight t cap a before written) turned.answer
      (subst (RepairIsRight t cap (repair_answer t cap before zeros zeros) before) turned.list_after
      (every_repair_is_right t cap before zeros zeros
      (long_by t cap before zeros zeros ok (omega (arith, before_length)) zeros_long zeros_long)))

  pub first_table : TableRight t cap (cap - used t cap) (answer_of (search_under T cap)) before written
  first_table = record {
    alone = λ bytes words long.
        let a = turned_by t cap before bytes words long in
        (sym a.answer, sym a.list_after);
    right = first_right;
    used = (used t cap, carried (search_under T cap), adds t cap ok);
  }

-- ---- each table

-- the part of a table behind the first is its part of what is behind the first part
part_behind_first : (t : List ℕ) (ts : List (List ℕ)) (k : ℕ) (lists : List ℕ)
    → part (t ∷ ts) (suc k) lists ≡ part ts k (drop (steps_in t) lists)
unfolding steps_before
part_behind_first t ts k lists =
    ap (take (steps_in (table_at ts k))) (sym (drop-drop (steps_before ts k) (steps_in t) lists))

pub each_in_turn : (ts : List (List ℕ)) (cap : ℕ) (lists : List ℕ) (more : List Answer) → Each ts
    → all_steps ts ≤ length lists → (k : ℕ) → k < length ts
    → TableRight (table_at ts k) (allowance ts cap k) (allowance ts cap (suc k))
    (answer_number_at (answers_of ts cap ++ more) k) (part ts k lists) (part ts k (lists_after ts cap lists))
unfolding Each all_steps answers_of lists_after allowance steps_before
each_in_turn [] cap lists more each room k h = absurd (not-suc-le-zero h)
each_in_turn (t ∷ ts) cap lists more each room zero h =
    let T = table_of t in
    let short : steps_in t ≤ length lists = omega (arith, room) in
    let w = written_after T (search_under T cap) (take (steps_in t) lists) in
    let rest = lists_after ts (cap - used t cap) (drop (steps_in t) lists) in
    let size : length w ≡ steps_in t = first_length t ts cap lists each.0 short in
    let after : w ≡ take (steps_in t) (w ++ rest) =
    sym (take-append_seam w rest) ∙ ap (λ (j : ℕ). take j (w ++ rest)) size in
    subst (TableRight t cap (cap - used t cap) (answer_of (search_under T cap)) (take (steps_in t) lists)) after
    (first_table t ts cap lists each.0 short)
each_in_turn (t ∷ ts) cap lists more each room (suc k) h =
    let T = table_of t in
    let short : steps_in t ≤ length lists = omega (arith, room) in
    let w = written_after T (search_under T cap) (take (steps_in t) lists) in
    let left = cap - used t cap in
    let behind = drop (steps_in t) lists in
    let rest = lists_after ts left behind in
    let size : length w ≡ steps_in t = first_length t ts cap lists each.0 short in
    let room' : all_steps ts ≤ length behind = omega (arith, room, length-drop (steps_in t) lists) in
    let same_before : part (t ∷ ts) (suc k) lists ≡ part ts k behind = part_behind_first t ts k lists in
    let dropped : drop (steps_in t) (w ++ rest) ≡ rest =
    ap (λ (j : ℕ). drop j (w ++ rest)) (sym size) ∙ drop-append_seam w rest in
    let same_after : part (t ∷ ts) (suc k) (w ++ rest) ≡ part ts k rest =
    part_behind_first t ts k (w ++ rest) ∙ ap (part ts k) dropped in
    subst₂ (TableRight (table_at ts k) (allowance ts left k) (allowance ts left (suc k))
    (answer_number_at (answers_of ts left ++ more) k)) (sym same_before) (sym same_after)
    (each_in_turn ts left behind more each.1 room' k (le_of_suc-le-suc h))

-- ---- what is behind the parts

pub lists_length : (ts : List (List ℕ)) (cap : ℕ) (lists : List ℕ) → Each ts → all_steps ts ≤ length lists
    → length (lists_after ts cap lists) ≡ length lists
unfolding Each all_steps lists_after
lists_length [] cap lists each room = refl
lists_length (t ∷ ts) cap lists each room =
    let T = table_of t in
    let short : steps_in t ≤ length lists = omega (arith, room) in
    let w = written_after T (search_under T cap) (take (steps_in t) lists) in
    let left = cap - used t cap in
    let behind = drop (steps_in t) lists in
    let room' : all_steps ts ≤ length behind = omega (arith, room, length-drop (steps_in t) lists) in
    omega (
      arith,
      room,
      length-append w (lists_after ts left behind),
      first_length t ts cap lists each.0 short,
      lists_length ts left behind each.1 room',
      length-drop (steps_in t) lists,
    )

pub lists_stay : (ts : List (List ℕ)) (cap : ℕ) (lists : List ℕ) → Each ts → all_steps ts ≤ length lists
    → (j : ℕ) → all_steps ts ≤ j → get_or (lists_after ts cap lists) j 0 ≡ get_or lists j 0
unfolding Each all_steps lists_after
lists_stay [] cap lists each room j h = refl
lists_stay (t ∷ ts) cap lists each room j h =
    let T = table_of t in
    let short : steps_in t ≤ length lists = omega (arith, room) in
    let w = written_after T (search_under T cap) (take (steps_in t) lists) in
    let left = cap - used t cap in
    let behind = drop (steps_in t) lists in
    let rest = lists_after ts left behind in
    let size : length w ≡ steps_in t = first_length t ts cap lists each.0 short in
    let room' : all_steps ts ≤ length behind = omega (arith, room, length-drop (steps_in t) lists) in
    let i = j - steps_in t in
    let at : j ≡ steps_in t + i = omega (arith, h) in
    let past : j ≡ length w + i = omega (arith, size, h) in
    let low : all_steps ts ≤ i = omega (arith, h) in
    ap (λ (x : ℕ). get_or (w ++ rest) x 0) past
    ∙ get_or-append-add w rest i 0
    ∙ lists_stay ts left behind each.1 room' i low
    ∙ get_or-drop (steps_in t) lists i 0
    ∙ ap (λ (x : ℕ). get_or lists x 0) (sym at)

-- ---- what is left

pub left_is : (ts : List (List ℕ)) (cap : ℕ) → left_after ts cap ≡ allowance ts cap (length ts)
unfolding left_after allowance
left_is [] cap = refl
left_is (t ∷ ts) cap = left_is ts (cap - used t cap)
