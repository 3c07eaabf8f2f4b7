-- What the call on a batch promises, by what it gives and leaves.
use Prim.Native.Nat.{ℕ, zero, suc, ◌+◌, ◌-◌, ◌≤◌, ◌<◌, suc-le-suc, zero-le}
use native.Mathlib.Nat.{not-suc-le-zero, le_of_suc-le-suc, le_refl}
use native.Mathlib.Omega.{arith}
use mathlib.Core.Path.{◌≡◌, refl, sym, ap, subst, ◌∙◌}
use mathlib.Core.Bool.{Bool, true, false, true≢false, false≢true, ◌&&◌}
use mathlib.Core.List.{List, [], ◌∷◌, ◌++◌}
use borrow.Author.Tests.{leb-true, le-leb}
use lib.Dec.{leb}
use lib.ListN.{length, drop, get_or, length-append, length-drop}
use lib.Seq.{get_or-append-add, get_or-drop}
use Rattle.std.specs.Prelude.{Option, Some, None, Result, Ok, Err, unwrap_or, IsOk, IfErr, OnErr, IfOk, ◌↔◌}
use Rattle.std.proofs.lemmas.Option.{same_Some, none-some}
use Rattle.table.specs.declared.refusal.Refusal.{Refusal}
use Rattle.table.specs.declared.refusal.Refusal.TheVariants.{ShortBuffer, NotTables}
use Rattle.table.specs.Facts.{IsTable}
use Rattle.table.proofs.Bools.{and_parts, parts_and}
use Rattle.table.proofs.Refused.{is_table}
use Rattle.ctl.specs.Price.{sum_below}
use Rattle.circuit.specs.Variables.{concat}
use Rattle.search.specs.declared.answer.Answer.{Answer}
use Rattle.search.specs.declared.answer.Answer.TheVariants.{None as Nothing}
use Rattle.search.specs.Answer.{answer_choices}
use Rattle.repair.specs.Effect.{cleared}
use Rattle.repair.proofs.Cleared.{cleared-written}
use Rattle.batch.specs.Batch.{IsBatch, most_tables, table_at, steps_before, used, allowance, most_variables}
use Rattle.batch.specs.Effect.{
  tables_in,
  at_least_one,
  batch_in,
  all_steps,
  answers_of,
  lists_after,
  left_after,
  room_for,
  room_verdict,
  end_of,
  on_tables,
  batch_verdict,
  batch_end,
  batch_lists,
  batch_bytes,
  batch_words,
  batch_answers,
}
use Rattle.batch.specs.Right.{
  RoomFor,
  BatchTaken,
  BatchRefused,
  BatchIsRight,
  BatchesAreUnique,
  TableRight,
  answer_number_at,
  choices_in,
}
use Rattle.batch.specs.declared.BatchEnd.{BatchEnd}
use Rattle.batch.proofs.Cut.{Each, IsCut, cut, cut_again}
use Rattle.batch.proofs.Needs.{before_all}
use Rattle.batch.proofs.InTurn.{each_in_turn, lists_length, lists_stay, left_is}

-- ---- accepted by number

pub each_table : (ts : List (List ℕ)) → Each ts → (k : ℕ) → k < length ts → IsTable (table_at ts k)
unfolding Each
each_table [] each k h = absurd (not-suc-le-zero h)
each_table (t ∷ ts) each zero h = (is_table t).0 each.0
each_table (t ∷ ts) each (suc k) h = each_table ts each.1 k (le_of_suc-le-suc h)

pub each_back : (ts : List (List ℕ)) → ((k : ℕ) → k < length ts → IsTable (table_at ts k)) → Each ts
unfolding Each
each_back [] each = tt
each_back (t ∷ ts) each =
    ((is_table t).1 (each 0 (suc-le-suc zero-le)), each_back ts (λ k h. each (suc k) (suc-le-suc h)))

-- ---- the bytes of a batch, and its tables

some_tables : (ts : List (List ℕ)) → 1 ≤ length ts → at_least_one (Some ts) ≡ Some ts
some_tables [] h = absurd (not-suc-le-zero h)
some_tables (t ∷ ts) h = refl

pub batch_cut : (bytes : List ℕ) (ts : List (List ℕ)) → IsBatch bytes ts → batch_in bytes ≡ Some ts
batch_cut bytes ts b =
    ap at_least_one (ap (tables_in most_tables) b.joined ∙ cut_again most_tables ts (each_back ts b.each) b.few)
    ∙ some_tables ts b.some

one_table : (o : Option (List (List ℕ))) (ts : List (List ℕ)) → at_least_one o ≡ Some ts
    → (o ≡ Some ts) × (1 ≤ length ts)
one_table None ts e = absurd (none-some ts e)
one_table (Some []) ts e = absurd (none-some ts e)
one_table (Some (u ∷ us)) ts e =
    (e, subst (λ (xs : List (List ℕ)). 1 ≤ length xs) (same_Some (u ∷ us) ts e) (suc-le-suc zero-le))

module _ (bytes : List ℕ) (ts : List (List ℕ)) (e : batch_in bytes ≡ Some ts) where
  found_cut : IsCut most_tables bytes ts
  found_cut = cut most_tables bytes ts (one_table (tables_in most_tables bytes) ts e).0

  pub each_cut : Each ts
  each_cut = found_cut.each

  pub cut_batch : IsBatch bytes ts
  cut_batch = record {
    joined = found_cut.joined;
    some = (one_table (tables_in most_tables bytes) ts e).1;
    few = found_cut.few;
    each = each_table ts found_cut.each;
  }

pub unique : BatchesAreUnique
unique bytes tables others a b = same_Some tables others (sym (batch_cut bytes tables a) ∙ batch_cut bytes others b)

-- ---- room

module _ (ts : List (List ℕ)) (lists bytes words answers : ℕ) where
  abbrev l : Bool
  l = leb (all_steps ts) lists

  abbrev w : Bool
  w = leb (most_variables ts) bytes

  abbrev v : Bool
  v = leb (most_variables ts) words

  abbrev a : Bool
  a = leb (length ts) answers

  pub has_room : room_for ts lists bytes words answers ≡ true → RoomFor ts lists bytes words answers
  has_room e =
      let first = and_parts (l && w && v) a e in
      let second = and_parts (l && w) v first.0 in
      let third = and_parts l w second.0 in
      record {
        lists_long = let h = leb-true (all_steps ts) lists third.0 in omega (arith, h, before_all ts);
        bytes_long = leb-true (most_variables ts) bytes third.1;
        words_long = leb-true (most_variables ts) words second.1;
        answers_long = leb-true (length ts) answers first.1;
      }

  pub room_back : RoomFor ts lists bytes words answers → room_for ts lists bytes words answers ≡ true
  room_back r =
      let fits : all_steps ts ≤ lists = let h = r.lists_long in omega (arith, h, before_all ts) in
      parts_and (l && w && v) a
      (parts_and (l && w) v
      (parts_and l w (le-leb (all_steps ts) lists fits) (le-leb (most_variables ts) bytes r.bytes_long))
      (le-leb (most_variables ts) words r.words_long))
      (le-leb (length ts) answers r.answers_long)

-- ---- what is given of a batch with room

pub answers_length : (ts : List (List ℕ)) (cap : ℕ) → length (answers_of ts cap) ≡ length ts
unfolding answers_of
answers_length [] cap = refl
answers_length (t ∷ ts) cap = ap suc (answers_length ts (cap - used t cap))

module _ (ts : List (List ℕ)) (cap : ℕ) (lists : List ℕ) (answers : List Answer) (each : Each ts)
    (room : all_steps ts ≤ length lists) where
  abbrev all : List Answer
  all = answers_of ts cap ++ drop (length ts) answers

  abbrev one : ℕ → ℕ
  one k = choices_in (answer_number_at all k)

  -- the choices of the first tables and what they leave add up to the cap
  adds_to : (k : ℕ) → k ≤ length ts → sum_below k one + allowance ts cap k ≡ cap
  unfolding sum_below allowance
  adds_to zero h = omega (arith, start ts)
    where
      start : (ts : List (List ℕ)) → allowance ts cap zero ≡ cap
      start [] = refl
      start (t ∷ ts) = refl
  adds_to (suc k) h =
      let r = each_in_turn ts cap lists (drop (length ts) answers) each room k (omega (arith, h)) in
      let c : one k ≡ r.used.0 = ap (λ (o : Option ℕ). unwrap_or o 0) r.used.1 in
      omega (arith, adds_to k (omega (arith, h)), c, r.used.2)

  pub adds_up : sum_below (length ts) one + left_after ts cap ≡ cap
  adds_up = omega (arith, adds_to (length ts) (le_refl (length ts)), left_is ts cap)

  pub answers_stay : length ts ≤ length answers → (length all ≡ length answers)
      × ((k : ℕ) → length ts ≤ k → answer_number_at all k ≡ answer_number_at answers k)
  answers_stay h = (
    omega (
      arith,
      h,
      length-append (answers_of ts cap) (drop (length ts) answers),
      answers_length ts cap,
      length-drop (length ts) answers,
    ),
    λ k l.
        let i = k - length ts in
        let past : k ≡ length (answers_of ts cap) + i = omega (arith, answers_length ts cap, l) in
        let at : length ts + i ≡ k = omega (arith, l) in
        ap (answer_number_at all) past
        ∙ get_or-append-add (answers_of ts cap) (drop (length ts) answers) i (Nothing 0 0)
        ∙ get_or-drop (length ts) answers i (Nothing 0 0)
        ∙ ap (answer_number_at answers) at,
  )

module _ (bytes : List ℕ) (cap : ℕ) (lists work words : List ℕ) (answers : List Answer) where
  abbrev verdict : Result (List (List ℕ)) Refusal
  verdict = batch_verdict bytes cap lists work words answers

  abbrev Taken : Type 0
  Taken = BatchTaken bytes (length lists) (length work) (length words) (length answers)

  abbrev Refused : Refusal → Type 0
  Refused = BatchRefused bytes (length lists) (length work) (length words) (length answers)

  abbrev room : List (List ℕ) → Bool
  room ts = room_for ts (length lists) (length work) (length words) (length answers)

  -- the call by what the bytes are, and by the room
  abbrev at_room : Option (List (List ℕ)) → Result (List (List ℕ)) Refusal
  at_room o = room_verdict o (length lists) (length work) (length words) (length answers)

  -- what is taken and what is refused, by the tests
  abbrev Told : Result (List (List ℕ)) Refusal → Type 0
  Told v = (IsOk (end_of v cap) ↔ Taken) × IfErr (end_of v cap) Refused

  told_room : (ts : List (List ℕ)) → batch_in bytes ≡ Some ts → (b : Bool) → room ts ≡ b → Told (at_room (Some ts))
  told_room ts e true r =
      subst Told (sym (ap pick r))
      (((λ ok. (ts, cut_batch bytes ts e, has_room ts _ _ _ _ r)), λ taken. refl), tt)
    where
      pick : Bool → Result (List (List ℕ)) Refusal
      pick b = elim b [ true ↦ Ok ts | false ↦ Err ShortBuffer ]
  told_room ts e false r =
      let short : ¬ RoomFor ts (length lists) (length work) (length words) (length answers) =
      (λ fits. true≢false (sym (room_back ts _ _ _ _ fits) ∙ r)) in
      subst Told (sym (ap pick r)) (
        (
          (λ ok. absurd (false≢true ok)),
          λ taken. absurd (short (subst
              (λ (us : List (List ℕ)). RoomFor us (length lists) (length work) (length words) (length answers))
              (unique bytes taken.0 ts taken.1 (cut_batch bytes ts e)) taken.2)),
        ),
        (ts, cut_batch bytes ts e, short),
      )
    where
      pick : Bool → Result (List (List ℕ)) Refusal
      pick b = elim b [ true ↦ Ok ts | false ↦ Err ShortBuffer ]

  told : (o : Option (List (List ℕ))) → batch_in bytes ≡ o → Told (at_room o)
  told None e =
      let not_batch : (ts : List (List ℕ)) → ¬ IsBatch bytes ts =
      (λ ts b. none-some ts (sym e ∙ batch_cut bytes ts b)) in
      (((λ ok. absurd (false≢true ok)), λ taken. absurd (not_batch taken.0 taken.1)), not_batch)
  told (Some ts) e = told_room ts e (room ts) refl

  pub tests_told : Told verdict
  tests_told = told (batch_in bytes) refl

  -- what is left as it was where it is refused
  abbrev Same : Result (List (List ℕ)) Refusal → Type 0
  Same v = OnErr (end_of v cap) (
      (on_tables v (λ ts. lists_after ts cap lists) lists ≡ lists)
      × ((on_tables v (λ ts. cleared (most_variables ts) work) work ≡ work)
      × ((on_tables v (λ ts. cleared (most_variables ts) words) words ≡ words)
      × (on_tables v (λ ts. answers_of ts cap ++ drop (length ts) answers) answers ≡ answers))))

  same : (v : Result (List (List ℕ)) Refusal) → Same v
  same (Ok ts) = tt
  same (Err r) = (refl, (refl, (refl, refl)))

  pub refused_same : Same verdict
  refused_same = same verdict

  -- what is given where it is taken
  abbrev Right : Result (List (List ℕ)) Refusal → Type 0
  Right v = IfOk (end_of v cap) (λ end. BatchIsRight bytes cap end.tables end.left answers
      (on_tables v (λ ts. answers_of ts cap ++ drop (length ts) answers) answers)
      lists (on_tables v (λ ts. lists_after ts cap lists) lists)
      work (on_tables v (λ ts. cleared (most_variables ts) work) work)
      words (on_tables v (λ ts. cleared (most_variables ts) words) words))

  right_room : (ts : List (List ℕ)) → batch_in bytes ≡ Some ts → (b : Bool) → room ts ≡ b → Right (at_room (Some ts))
  right_room ts e true r =
      let each = each_cut bytes ts e in
      let fits = has_room ts (length lists) (length work) (length words) (length answers) r in
      let long : all_steps ts ≤ length lists = let h = fits.lists_long in omega (arith, h, before_all ts) in
      subst Right (sym (ap pick r)) (record {
        tables = ts;
        batch = cut_batch bytes ts e;
        counted = refl;
        each = each_in_turn ts cap lists (drop (length ts) answers) each long;
        left_over = left_is ts cap;
        adds_up = adds_up ts cap lists answers each long;
        answers_stay = answers_stay ts cap lists answers each long fits.answers_long;
        lists_stay = (
          lists_length ts cap lists each long,
          λ j h. lists_stay ts cap lists each long j (omega (arith, h, before_all ts)),
        );
        work_cleared = cleared-written (most_variables ts) work fits.bytes_long;
        words_cleared = cleared-written (most_variables ts) words fits.words_long;
      })
    where
      pick : Bool → Result (List (List ℕ)) Refusal
      pick b = elim b [ true ↦ Ok ts | false ↦ Err ShortBuffer ]
  right_room ts e false r = subst Right (sym (ap pick r)) tt
    where
      pick : Bool → Result (List (List ℕ)) Refusal
      pick b = elim b [ true ↦ Ok ts | false ↦ Err ShortBuffer ]

  right : (o : Option (List (List ℕ))) → batch_in bytes ≡ o → Right (at_room o)
  right None e = tt
  right (Some ts) e = right_room ts e (room ts) refl

  pub given_right : Right verdict
  given_right = right (batch_in bytes) refl

-- ---- all of it, by what the tests come to

module _ (bytes : List ℕ) (cap : ℕ) (lists work words : List ℕ) (answers : List Answer)
    (v : Result (List (List ℕ)) Refusal) where
  abbrev lists' : List ℕ
  lists' = on_tables v (λ ts. lists_after ts cap lists) lists

  abbrev work' : List ℕ
  work' = on_tables v (λ ts. cleared (most_variables ts) work) work

  abbrev words' : List ℕ
  words' = on_tables v (λ ts. cleared (most_variables ts) words) words

  abbrev answers' : List Answer
  answers' = on_tables v (λ ts. answers_of ts cap ++ drop (length ts) answers) answers

  -- each clause of the call's contract
  pub record Given : Type 0 where
    pub value : end_of v cap ≡ batch_end bytes cap lists work words answers
    pub lists_after : lists' ≡ batch_lists bytes cap lists work words answers
    pub bytes_after : work' ≡ batch_bytes bytes cap lists work words answers
    pub words_after : words' ≡ batch_words bytes cap lists work words answers
    pub answers_after : answers' ≡ batch_answers bytes cap lists work words answers
    pub accepted : IsOk (end_of v cap) ↔ BatchTaken bytes (length lists) (length work) (length words) (length answers)
    pub refused : IfErr (end_of v cap) (BatchRefused bytes (length lists) (length work) (length words) (length answers))
    pub untouched : OnErr (end_of v cap)
        ((lists' ≡ lists) × ((work' ≡ work) × ((words' ≡ words) × (answers' ≡ answers))))
    pub right : IfOk (end_of v cap) (λ end. BatchIsRight bytes cap end.tables end.left answers answers' lists lists'
        work work' words words')

  pub given_by : batch_verdict bytes cap lists work words answers ≡ v → Given
  given_by e = record {
    value = ap (λ (w : Result (List (List ℕ)) Refusal). end_of w cap) (sym e);
    lists_after =
        ap (λ (w : Result (List (List ℕ)) Refusal). on_tables w (λ ts. lists_after ts cap lists) lists) (sym e);
    bytes_after =
        ap (λ (w : Result (List (List ℕ)) Refusal). on_tables w (λ ts. cleared (most_variables ts) work) work) (sym e);
    words_after =
        ap (λ (w : Result (List (List ℕ)) Refusal).
        on_tables w (λ ts. cleared (most_variables ts) words) words) (sym e);
    answers_after = ap (λ (w : Result (List (List ℕ)) Refusal).
        on_tables w (λ ts. answers_of ts cap ++ drop (length ts) answers) answers) (sym e);
    accepted = (subst (Told bytes cap lists work words answers) e (tests_told bytes cap lists work words answers)).0;
    refused = (subst (Told bytes cap lists work words answers) e (tests_told bytes cap lists work words answers)).1;
    untouched = same bytes cap lists work words answers v;
    right = subst (Right bytes cap lists work words answers) e (given_right bytes cap lists work words answers);
  }

-- what is right of some values is right of the same under other names
module _ (bytes : List ℕ) (cap : ℕ) (answers : List Answer) (lists work words : List ℕ) where
  pub right_as : (n m k l : ℕ) (gs hs : List Answer) (xs ys us vs ps qs : List ℕ) → n ≡ m → k ≡ l → gs ≡ hs → xs ≡ ys
      → us ≡ vs → ps ≡ qs → BatchIsRight bytes cap m l answers hs lists ys work vs words qs
      → BatchIsRight bytes cap n k answers gs lists xs work us words ps
  right_as n m k l gs hs xs ys us vs ps qs a b c d e f r =
      subst (λ (z : ℕ). BatchIsRight bytes cap z k answers gs lists xs work us words ps) (sym a)
      (subst (λ (z : ℕ). BatchIsRight bytes cap m z answers gs lists xs work us words ps) (sym b)
      (subst (λ (z : List Answer). BatchIsRight bytes cap m l answers z lists xs work us words ps) (sym c)
      (subst (λ (z : List ℕ). BatchIsRight bytes cap m l answers hs lists z work us words ps) (sym d)
      (subst (λ (z : List ℕ). BatchIsRight bytes cap m l answers hs lists ys work z words ps) (sym e)
      (subst (λ (z : List ℕ). BatchIsRight bytes cap m l answers hs lists ys work vs words z) (sym f) r)))))
