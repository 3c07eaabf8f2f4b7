-- The kept states, whether the list is total, and the initial states, on words.
use Prim.Native.Nat.{ℕ, ◌*◌, ◌≤◌, ◌<◌}
use mathlib.Core.Path.{◌≡◌, refl, sym, ap, ◌∙◌}
use mathlib.Core.Bool.{Bool, true, false, not, ◌&&◌, false≢true}
use mathlib.Core.Logic.Iff
use mathlib.Core.Logic.{◌↔◌}
use mathlib.Core.List.{List}
use native.Mathlib.Nat.{lt_of_lt_of_le}
use native.Mathlib.Omega.{arith}
use borrow.Author.Tests.{eqb-true, eq-eqb}
use lib.Dec.{eqb}
use lib.ListN.{length, get_or, drop}
use Rattle.sets.specs.Member.{member, set_of}
use Rattle.sets.proofs.Laws.{member-zero}
use Rattle.sets.proofs.SetOf.{set_of-lt, member-set_of-below, empty}
use Rattle.table.specs.declared.record.State.{State}
use Rattle.table.specs.Table.{Table, state_width, state_of, zero_state, state_at, is_initial, initial_at}
use Rattle.table.specs.Facts.{Wellformed}
use Rattle.table.specs.StateSets.{initial_word, labelled_word}
use Rattle.table.proofs.Bools.{same_test, not_so}
use Rattle.table.proofs.Past.{state_past}
use Rattle.ctl.specs.Kept.{Total}
use Rattle.ctl.specs.Range.{tabulate}
use Rattle.ctl.specs.Labels.{is_kept}
use Rattle.ctl.specs.Tests.{is_total}
use Rattle.ctl.proofs.Tabulate.{member_tabulate, tabulate_member, all_true}
use Rattle.ctl.proofs.Targets.{targets_sound, targets_complete, is_kept_lem, next_inside}
use Rattle.ctl.proofs.Repair.{is-total}
use Rattle.label.specs.Words.{kept_word, total_rows}
use Rattle.label.proofs.Marks.{wider}
use Rattle.label.proofs.Next.{KeptRows, row-member, row_kept}

-- ---- the kept states

-- no state past the last is kept
pub kept_inside : (T : Table) → Wellformed T → (list : List ℕ) (s : ℕ) → length T.states ≤ s → is_kept T list s ≡ false
kept_inside T wf list s h = not_so (is_kept T list s) (λ e.
    let r = (is_kept_lem T list s).0 e in omega (arith, (next_inside T wf list s r.0 r.1).0))

module _ {T : Table} {list rows : List ℕ} (k : KeptRows T list rows) where
  -- the states whose rows are not 0 are the kept states
  pub kept_word_lem : kept_word rows (length T.states) ≡ set_of 32 (is_kept T list)
  kept_word_lem = wider (length T.states) _ (is_kept T list) k.table.few_states
      (λ s h. row_kept k s (lt_of_lt_of_le h k.table.few_states)) (kept_inside T k.table list)

-- ---- whether the list is total

-- `a && not b` is false: b is true where a is
pub implied : (a b : Bool) → (a && not b ≡ false) ↔ (a ≡ true → b ≡ true)
implied true true = (λ e h. refl, λ f. refl)
implied true false = (λ e h. sym e, λ f. sym (f refl))
implied false b = (λ e h. absurd (false≢true h), λ f. refl)

-- a set that is tested to be 0 has no member, and back
pub none_found : (f : ℕ → Bool) → (eqb (set_of 32 f) 0 ≡ true) ↔ ((t : ℕ) → t < 32 → f t ≡ false)
none_found f = (
  λ e t h. sym (member-set_of-below 32 f t h) ∙ ap (λ (m : ℕ). member m t) (eqb-true (set_of 32 f) 0 e) ∙ member-zero t,
  λ none. eq-eqb (set_of 32 f) 0 (empty 32 (set_of 32 f) (set_of-lt 32 f)
      (λ t h. member-set_of-below 32 f t h ∙ none t h)),
)

-- every state that a row leads to is in the set
total_rows_lem : (rows : List ℕ) (kept : ℕ) → (total_rows rows kept ≡ true)
    ↔ ((s t : ℕ) → s < 32 → t < 32 → member (get_or rows s 0) t ≡ true → member kept t ≡ true)
total_rows_lem rows kept = (
  λ e s t h l. (implied (member (get_or rows s 0) t) (member kept t)).0
      ((none_found _).0 ((all_true _ (tabulate 32 (λ s. s))).0 e s (member_tabulate 32 (λ s. s) s h)) t l),
  λ total. (all_true _ (tabulate 32 (λ s. s))).1 (λ s m.
      let r = tabulate_member 32 (λ s. s) m in
      let h : s < 32 = rw r.2 r.1 in
      (none_found _).1 (λ t l. (implied (member (get_or rows s 0) t) (member kept t)).1 (total s t h l))),
)

module _ {T : Table} {list rows : List ℕ} (k : KeptRows T list rows) where
  -- every row leads to kept states alone when the list is total
  total_kept : (kept : ℕ) → kept ≡ set_of 32 (is_kept T list)
      → ((s t : ℕ) → s < 32 → t < 32 → member (get_or rows s 0) t ≡ true → member kept t ≡ true) ↔ Total T list
  total_kept kept e = (
    λ total s t h.
        let r = next_inside T k.table list s t h in
        let hs = lt_of_lt_of_le r.0 k.table.few_states in
        let ht = lt_of_lt_of_le r.1 k.table.few_states in
        (is_kept_lem T list t).0 (sym (member_kept t ht)
        ∙ total s t hs ht ((row-member k s t hs ht).1 (targets_complete T list s t h))),
    λ total s t hs ht m. member_kept t ht
        ∙ (is_kept_lem T list t).1 (total s t (targets_sound T list s t ((row-member k s t hs ht).0 m))),
  )
    where
      member_kept : (t : ℕ) → t < 32 → member kept t ≡ is_kept T list t
      member_kept t h = ap (λ (m : ℕ). member m t) e ∙ member-set_of-below 32 (is_kept T list) t h

  -- the test of the rows says whether the list is total
  pub total_word : total_rows rows (kept_word rows (length T.states)) ≡ is_total T list
  total_word =
      let kept = kept_word rows (length T.states) in
      let means = Iff.trans (total_rows_lem rows kept) (total_kept kept (kept_word_lem k)) in
      same_test (total_rows rows kept) (is_total T list) (λ e. (is-total T list).1 (means.0 e))
      (λ e. means.1 ((is-total T list).0 e))

-- ---- what the records of the states say

-- the bytes hold the records of the states of a table
abbrev pub StateBytes : Table → List ℕ → Type 0
StateBytes T states = (s : ℕ) → s < length T.states → state_of (drop (state_width * s) states) ≡ state_at T s

module _ (T : Table) (wf : Wellformed T) (states : List ℕ) (records : StateBytes T states) where
  -- a set that is read off the records, of a test that no record of zeros passes
  read_word : (test : State → Bool) → test zero_state ≡ false
      → set_of (length T.states) (λ s. test (state_of (drop (state_width * s) states)))
      ≡ set_of 32 (λ s. test (state_at T s))
  read_word test zeros =
      wider (length T.states) _ _ wf.few_states (λ s h. ap test (records s h))
      (λ s h. ap test (state_past T s h) ∙ zeros)

  -- the initial states
  pub initial_word_lem : initial_word states (length T.states) ≡ set_of 32 (initial_at T)
  initial_word_lem = read_word is_initial refl

  -- the states with p in their label
  pub labelled_word_lem : (p : ℕ)
      → labelled_word states (length T.states) p ≡ set_of 32 (λ s. member (state_at T s).label p)
  labelled_word_lem p = read_word (λ x. member x.label p) (member-zero p)
