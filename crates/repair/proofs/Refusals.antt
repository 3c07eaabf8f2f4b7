-- For which table and buffers Repair refuses, what it leaves then, and that it refuses no table with long enough
-- buffers.
use Prim.Native.Nat.{ℕ}
use mathlib.Core.Path.{◌≡◌, refl, sym, subst, ◌∙◌}
use mathlib.Core.Logic.{◌↔◌, ◌⊎◌, inl, inr}
use mathlib.Core.Bool.{Bool, true, false, ◌&&◌}
use mathlib.Core.List.{List}
use lib.Dec.{leb}
use lib.ListN.{length, replicate}
use Rattle.std.specs.Prelude.{Ok, Err}
use Rattle.std.proofs.lemmas.Bool.{leb-false}
use Rattle.table.specs.declared.refusal.Refusal.{Refusal}
use Rattle.table.specs.declared.refusal.Refusal.TheVariants.{
  SheetForm,
  Length,
  Counts,
  StateRecord,
  NoInitial,
  StepEnd,
  RepeatedStep,
  NodeRecord,
  ListForm,
  ShortBuffer,
  NotTotal,
  NoInitialKept,
  RootFails,
  UnreachedStep,
  NotTables,
}
use Rattle.table.specs.Verdict.{Verdict, require}
use Rattle.table.specs.Buffer.{on_accepted, Written}
use Rattle.table.specs.Table.{table_of}
use Rattle.table.specs.Accept.{table_verdict}
use Rattle.table.specs.Refused.{TableRefused}
use Rattle.table.proofs.Verdicts.{refused, then_next}
use Rattle.table.proofs.Refused.{is_table, table_refused as table_refused_for}
use Rattle.circuit.specs.Variables.{variable_formula}
use Rattle.search.specs.Search.{Outcome, found, none, spent}
use Rattle.search.specs.TableSearch.{search_under}
use Rattle.search.specs.declared.answer.Answer.{Answer}
use Rattle.search.specs.declared.answer.Answer.TheVariants.{Found, None, Spent, Refused}
use Rattle.search.specs.Answer.{IfRefused}
use Rattle.repair.specs.Effect.{repair_verdict, buffers_fit, answer_at, cleared, repair_answer}
use Rattle.repair.specs.Refused.{TooShort, RepairRefused}
use Rattle.repair.specs.Right.{LongEnough}
use Rattle.repair.proofs.Order.{table_refused, long_enough, accepted_parts, Left}
use Rattle.repair.proofs.Cleared.{cleared-written}

-- ---- why it is refused

err_same : (q r : Refusal) → ◌≡◌ {A = Verdict} (Err q) (Err r) → q ≡ r
err_same q r e = cc

-- a refusal of the one test is the one that it gives, and the test fails
require_refused : (q r : Refusal) (b : Bool) → require q b ≡ Err r → (q ≡ r) × (b ≡ false)
require_refused q r true e = absurd (refused r (sym e))
require_refused q r false e = (cc, refl)

-- one of three tests fails
one_fails : (a b c : Bool) → a && b && c ≡ false → (a ≡ false) ⊎ ((b ≡ false) ⊎ (c ≡ false))
one_fails false b c e = inl refl
one_fails true false c e = inr (inl refl)
one_fails true true c e = inr (inr e)

module _ (table list bytes words : List ℕ) where
  abbrev V : ℕ
  V = variable_formula (table_of table)

  not_fitting : buffers_fit (table_of table) (length list) (length bytes) (length words) ≡ false
      → TooShort table list bytes words
  not_fitting e =
      let steps = leb (length (table_of table).steps) (length list) in
      elim (one_fails steps (leb V (length bytes)) (leb V (length words)) e) [
        | inl p ↦ inl (leb-false _ _ p)
        | inr (inl p) ↦ inr (inl (leb-false _ _ p))
        | inr (inr p) ↦ inr (inr (leb-false _ _ p))
      ]

  -- a refusal of the table is given as it is
  of_table : (r : Refusal) → TableRefused table r → RepairRefused table list bytes words r
  of_table SheetForm h = h
  of_table Length h = h
  of_table Counts h = h
  of_table StateRecord h = h
  of_table NoInitial h = h
  of_table StepEnd h = h
  of_table RepeatedStep h = h
  of_table NodeRecord h = h
  of_table ListForm h = h
  of_table ShortBuffer h = absurd h
  of_table NotTotal h = h
  of_table NoInitialKept h = h
  of_table RootFails h = h
  of_table UnreachedStep h = h
  of_table NotTables h = h

  -- what a refusal says, where the table is refused and where it is not
  refused_for : (v : Verdict) → table_verdict table ≡ v → (r : Refusal)
      → repair_verdict table list bytes words ≡ Err r → RepairRefused table list bytes words r
  unfolding repair_verdict
  refused_for (Err q) e r h =
      let same : q ≡ r = err_same q r (sym (table_refused table list bytes words q e) ∙ h) in
      of_table r (subst (TableRefused table) same (table_refused_for table q e))
  refused_for (Ok tt) e r h =
      let short = require_refused ShortBuffer r _ (sym (then_next (table_verdict table) _ e) ∙ h) in
      subst (RepairRefused table list bytes words) short.0 ((is_table table).0 e, not_fitting short.1)

  -- it is refused or not by the verdict
  refused_at : (v : Verdict) → repair_verdict table list bytes words ≡ v → (o : Outcome)
      → IfRefused (answer_at v o) (RepairRefused table list bytes words)
  refused_at (Ok tt) e (found m p c k) = tt
  refused_at (Ok tt) e (none c k) = tt
  refused_at (Ok tt) e (spent c k) = tt
  refused_at (Err r) e o = refused_for (table_verdict table) refl r e

  -- long enough buffers pass, and what passes is long enough
  enough : repair_verdict table list bytes words ≡ Ok tt → LongEnough table list bytes words
  enough e =
      let p = accepted_parts table list bytes words e in
      record { accepted = (is_table table).0 p.0; list_long = p.1; bytes_long = p.2; words_long = p.3 }

  pub fits : LongEnough table list bytes words → repair_verdict table list bytes words ≡ Ok tt
  fits g = long_enough table list bytes words ((is_table table).1 g.accepted) g.list_long g.bytes_long g.words_long

  -- it is not refused just where the table is one and the buffers are long enough
  answered_at : (v : Verdict) → repair_verdict table list bytes words ≡ v → (o : Outcome)
      → IfRefused (answer_at v o) (λ r. ⊥) ↔ LongEnough table list bytes words
  answered_at (Ok tt) e o = (λ h. enough e, λ g. go o)
    where
      go : (o : Outcome) → IfRefused (answer_at (Ok tt) o) (λ r. ⊥)
      go (found m p c k) = tt
      go (none c k) = tt
      go (spent c k) = tt
  answered_at (Err r) e o = (λ h. absurd h, λ g. absurd (refused r (sym e ∙ fits g)))

  -- a refusal leaves the buffers
  left_at : (v : Verdict) (o : Outcome) (written zeros zero_words : List ℕ)
      → IfRefused (answer_at v o) (λ r.
      (on_accepted v written list ≡ list)
      × ((on_accepted v zeros bytes ≡ bytes) × (on_accepted v zero_words words ≡ words)))
  left_at (Ok tt) (found m p c k) x y z = tt
  left_at (Ok tt) (none c k) x y z = tt
  left_at (Ok tt) (spent c k) x y z = tt
  left_at (Err r) o x y z = (refl, (refl, refl))

-- what holds of each refusal holds of it where more is so
if_refused : (answer : Answer) (P Q : Refusal → Type 0) → ((r : Refusal) → P r → Q r)
    → IfRefused answer P → IfRefused answer Q
if_refused (Found p c k) P Q f h = tt
if_refused (None c k) P Q f h = tt
if_refused (Spent c k) P Q f h = tt
if_refused (Refused r) P Q f h = f r h

module _ (table : List ℕ) (cap : ℕ) (list bytes words : List ℕ) where
  abbrev zeros : List ℕ
  zeros = replicate (variable_formula (table_of table)) 0

  abbrev verdict : Verdict
  verdict = repair_verdict table list bytes words

  abbrev outcome : Outcome
  outcome = search_under (table_of table) cap

  -- of what is answered and left: what is refused, what it leaves, and what is not refused
  module _ (answer : Answer) (list' bytes' words' : List ℕ)
      (done : Left table cap list bytes words answer list' bytes' words') where
    pub refused_right : IfRefused answer (RepairRefused table list bytes words)
    refused_right =
        subst (λ (a : Answer). IfRefused a (RepairRefused table list bytes words)) (sym done.0)
        (refused_at table list bytes words verdict refl outcome)

    pub refused_leaves : IfRefused answer (λ r. (list' ≡ list) × ((bytes' ≡ bytes) × (words' ≡ words)))
    refused_leaves =
        subst (λ (a : Answer). IfRefused a (λ r. (list' ≡ list) × ((bytes' ≡ bytes) × (words' ≡ words)))) (sym done.0)
        (if_refused (repair_answer table cap list bytes words) _ _
        (λ r h. (done.1.0 ∙ h.0, (done.1.1.0 ∙ h.1.0, done.1.1.1 ∙ h.1.1)))
        (left_at table list bytes words verdict outcome _ _ _))

    pub answered_just : IfRefused answer (λ r. ⊥) ↔ LongEnough table list bytes words
    answered_just =
        subst (λ (a : Answer). IfRefused a (λ r. ⊥) ↔ LongEnough table list bytes words) (sym done.0)
        (answered_at table list bytes words verdict refl outcome)

    pub cleared_front : LongEnough table list bytes words → Written zeros bytes bytes' × Written zeros words words'
    cleared_front g =
        let ok = fits table list bytes words g in
        let v = variable_formula (table_of table) in (
          subst (λ (b : List ℕ). Written zeros bytes b)
              (sym (done.1.1.0 ∙ (λ j. on_accepted (ok j) (cleared v bytes) bytes)))
              (cleared-written v bytes g.bytes_long),
          subst (λ (b : List ℕ). Written zeros words b)
              (sym (done.1.1.1 ∙ (λ j. on_accepted (ok j) (cleared v words) words)))
              (cleared-written v words g.words_long),
        )
