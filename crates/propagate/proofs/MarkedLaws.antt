-- What has its readers in their words: one call after another, and a row added to the rows or to the levels.
use Prim.Native.Nat.{ℕ, suc, ◌+◌, ◌*◌, ◌-◌, ◌≤◌, ◌<◌}
use native.Mathlib.Decide.{ℕ_discrete}
use native.Mathlib.Omega.{arith}
use mathlib.Core.Path.{◌≡◌, refl, sym, ap, subst, ◌∙◌}
use mathlib.Core.Bool.{Bool, true, false}
use mathlib.Core.Logic.{◌⊎◌, inl, inr}
use mathlib.Core.List.{List}
use lib.ListN.{length, get_or}
use Rattle.sets.specs.Member.{member}
use Rattle.table.proofs.Bools.{or_neither}
use Rattle.rows.specs.declared.row.Row.{Row}
use Rattle.rows.specs.declared.row.Report.{Report}
use Rattle.rows.specs.Row.{known, union}
use Rattle.rows.specs.Words.{row_at, row_added, step_place, SmallRow, both_reports}
use Rattle.readers.specs.declared.who_reads.Readers.{Readers}
use Rattle.readers.specs.Readers.{grown}
use Rattle.readers.specs.Reads.{AgreeAt}
use Rattle.readers.specs.Marked.{Raised}
use Rattle.readers.proofs.MarkLaws.{
  raised_then,
  marked_more,
  kept_marked_more,
  steps_marked_more,
  level_marked_more,
  grown_agrees,
}
use Rattle.propagate.specs.declared.adding.RowOf.{RowOf}
use Rattle.propagate.specs.declared.adding.RowOf.TheVariants.{Steps, Node, Kept, Level}
use Rattle.propagate.specs.declared.level.Fixpoint.{Fixpoint}
use Rattle.propagate.specs.Memory.{node_place, kept_place}
use Rattle.propagate.specs.Marked.{ReadersMarked, RowMarked, RowsMarked, LevelsMarked}
use Rattle.propagate.proofs.AddedRow.{Apart, added_apart, places_apart, steps_apart, at_other}

-- ---- one row

-- of two things in turn, each done or marked, both are done or the whole is marked
both_or : {A B C M N : Type 0} → (A → B → C) → (M → N) → A ⊎ M → B ⊎ N → C ⊎ N
both_or both more (inl a) (inl b) = inl (both a b)
both_or both more (inl a) (inr n) = inr n
both_or both more (inr m) q = inr (more m)

-- what is marked stays marked, so that a row may change again
module _ (r : Readers) {looks looks' : List ℕ} (up : Raised looks looks') where
  pub row_marked_then : (of : RowOf) (a b c : Row) → RowMarked r looks of a b → RowMarked r looks' of b c
      → RowMarked r looks' of a c
  row_marked_then (Steps s) a b c p q = both_or (λ e f. f ∙ e) (steps_marked_more up r) p q
  row_marked_then (Node n) a b c p q = λ t. both_or (λ e f sign. f sign ∙ e sign) (marked_more up r) (p t) (q t)
  row_marked_then Kept a b c p q = λ t. both_or (λ e f sign. f sign ∙ e sign) (kept_marked_more up r) (p t) (q t)
  row_marked_then (Level k) a b c p q = λ t. both_or (λ e f sign. f sign ∙ e sign) (level_marked_more up r) (p t) (q t)

-- outside what has grown a row with more added to it is as it was
agrees_or : {M : ℕ → Type 0} {old x new : Row} → SmallRow old → SmallRow x → new ≡ union old x
    → ((t : ℕ) → member (grown old x) t ≡ true → M t) → (t : ℕ) → AgreeAt t old new ⊎ M t
agrees_or {M} {old} {x} {new} p q e mark t = go (member (grown old x) t) refl
  where
    go : (b : Bool) → member (grown old x) t ≡ b → AgreeAt t old new ⊎ M t
    go true m = inr (mark t m)
    go false m = inl (subst (AgreeAt t old) (sym e) (grown_agrees old x p q t m))

module _ (r : Readers) (looks : List ℕ) where
  -- a row that stays
  pub row_same : (of : RowOf) (a b : Row) → b ≡ a → RowMarked r looks of a b
  row_same (Steps s) a b e = inl e
  row_same (Node c) a b e = λ t. inl (λ sign. ap (λ (x : Row). known x sign t) e)
  row_same Kept a b e = λ t. inl (λ sign. ap (λ (x : Row). known x sign t) e)
  row_same (Level k) a b e = λ t. inl (λ sign. ap (λ (x : Row). known x sign t) e)

  -- a row with more added to it, where the readers of what has grown are marked
  pub row_grown : (of : RowOf) (old x new : Row) → SmallRow old → SmallRow x → new ≡ union old x
      → ReadersMarked r looks of (grown old x) → RowMarked r looks of old new
  row_grown (Steps s) old x new p q e m = inr m
  row_grown (Node c) old x new p q e m = agrees_or p q e m
  row_grown Kept old x new p q e m = agrees_or p q e m
  row_grown (Level k) old x new p q e m = agrees_or p q e m

-- ---- the rows

pub rows_same : {r : Readers} {looks looks' rows : List ℕ} → Raised looks looks' → RowsMarked r looks looks' rows rows
rows_same {r} {looks} {looks'} {rows} up = record {
  raised = up;
  steps = λ s h. row_same r looks' (Steps s) _ _ refl;
  nodes = λ c h. row_same r looks' (Node c) _ _ refl;
  kept = row_same r looks' Kept _ _ refl;
}

pub rows_then : {r : Readers} {looks₁ looks₂ looks₃ rows₁ rows₂ rows₃ : List ℕ}
    → RowsMarked r looks₁ looks₂ rows₁ rows₂ → RowsMarked r looks₂ looks₃ rows₂ rows₃
    → RowsMarked r looks₁ looks₃ rows₁ rows₃
rows_then {r} p q = record {
  raised = raised_then p.raised q.raised;
  steps = λ s h. row_marked_then r q.raised (Steps s) _ _ _ (p.steps s h) (q.steps s h);
  nodes = λ c h. row_marked_then r q.raised (Node c) _ _ _ (p.nodes c h) (q.nodes c h);
  kept = row_marked_then r q.raised Kept _ _ _ p.kept q.kept;
}

-- ---- the levels

pub levels_same : {r : Readers} {n : ℕ} {x : Fixpoint} {looks looks' words : List ℕ} → Raised looks looks'
    → LevelsMarked r n x looks looks' words words
levels_same {r} {x = x} {looks' = looks'} up = record {
  raised = up;
  levels = λ m h. row_same r looks' (Level (x.word + m)) _ _ refl;
  elsewhere = λ k h. refl;
}

pub levels_then : {r : Readers} {n : ℕ} {x : Fixpoint} {looks₁ looks₂ looks₃ words₁ words₂ words₃ : List ℕ}
    → LevelsMarked r n x looks₁ looks₂ words₁ words₂ → LevelsMarked r n x looks₂ looks₃ words₂ words₃
    → LevelsMarked r n x looks₁ looks₃ words₁ words₃
levels_then {r} {x = x} p q = record {
  raised = raised_then p.raised q.raised;
  levels = λ m h. row_marked_then r q.raised (Level (x.word + m)) _ _ _ (p.levels m h) (q.levels m h);
  elsewhere = λ k h. q.elsewhere k h ∙ p.elsewhere k h;
}

-- ---- a row added at a place: the rows apart from it stay

-- where a row is apart, and where it is one of several
module _ (r : Readers) (looks : List ℕ) (words words' : List ℕ) (at : ℕ) (x : Row) (fits : at + 1 < length words)
    (is : words' ≡ row_added words at x) where
  apart_stays : (of : RowOf) (p : ℕ) → Apart p at → RowMarked r looks of (row_at words p) (row_at words' p)
  apart_stays of p apart = row_same r looks of (row_at words p) (row_at words' p)
      (ap (λ (ws : List ℕ). row_at ws p) is ∙ added_apart words at x fits p apart)

  one_stays : (of : ℕ → RowOf) (place : ℕ → ℕ) → ((p j : ℕ) → ¬ (p ≡ j) → Apart (place p) (place j))
      → (i : ℕ) → at ≡ place i → RowMarked r looks (of i) (row_at words at) (row_at words' at)
      → (j : ℕ) → RowMarked r looks (of j) (row_at words (place j)) (row_at words' (place j))
  one_stays of place apart i e here j = elim (ℕ_discrete j i) [
    | yes same ↦ subst (λ (l : ℕ). RowMarked r looks (of l) (row_at words (place l)) (row_at words' (place l)))
        (sym same)
        (subst (λ (p : ℕ). RowMarked r looks (of i) (row_at words p) (row_at words' p)) e here)
    | no other ↦ apart_stays (of j) (place j) (subst (Apart (place j)) (sym e) (apart j i other))
  ]

module _ {r : Readers} {looks looks' rows rows' : List ℕ} (size : length rows ≡ 130) (up : Raised looks looks')
    (x : Row) where
  pub node_added : (i : ℕ) → i < 32 → rows' ≡ row_added rows (node_place i) x
      → RowMarked r looks' (Node i) (row_at rows (node_place i)) (row_at rows' (node_place i))
      → RowsMarked r looks looks' rows rows'
  node_added i h is here = record {
    raised = up;
    steps = λ s l. apart_stays r looks' rows rows' (node_place i) x fits is (Steps s) (step_place s)
        (inl (omega (arith, l)));
    nodes = λ c l. one_stays r looks' rows rows' (node_place i) x fits is Node node_place (places_apart 64) i refl here
        c;
    kept = apart_stays r looks' rows rows' (node_place i) x fits is Kept kept_place (inr (omega (arith, h)));
  }
    where
      fits : node_place i + 1 < length rows
      fits = omega (arith, size, h)

  pub step_added : (s : ℕ) → s < 32 → rows' ≡ row_added rows (step_place s) x
      → RowMarked r looks' (Steps s) (row_at rows (step_place s)) (row_at rows' (step_place s))
      → RowsMarked r looks looks' rows rows'
  step_added s h is here = record {
    raised = up;
    steps = λ t l. one_stays r looks' rows rows' (step_place s) x fits is Steps step_place steps_apart s refl here t;
    nodes = λ c l. apart_stays r looks' rows rows' (step_place s) x fits is (Node c) (node_place c)
        (inr (omega (arith, h)));
    kept = apart_stays r looks' rows rows' (step_place s) x fits is Kept kept_place (inr (omega (arith, h)));
  }
    where
      fits : step_place s + 1 < length rows
      fits = omega (arith, size, h)

  pub kept_added : rows' ≡ row_added rows kept_place x
      → RowMarked r looks' Kept (row_at rows kept_place) (row_at rows' kept_place)
      → RowsMarked r looks looks' rows rows'
  kept_added is here = record {
    raised = up;
    steps = λ s l. apart_stays r looks' rows rows' kept_place x fits is (Steps s) (step_place s)
        (inl (omega (arith, l)));
    nodes = λ c l. apart_stays r looks' rows rows' kept_place x fits is (Node c) (node_place c)
        (inl (omega (arith, l)));
    kept = here;
  }
    where
      fits : kept_place + 1 < length rows
      fits = omega (arith, size)

pub level_added : {r : Readers} {n : ℕ} {x : Fixpoint} {looks looks' words words' : List ℕ}
    → x.base + 2 * (n - 1) ≤ length words → Raised looks looks'
    → (m : ℕ) → suc m < n → (row : Row) → words' ≡ row_added words (x.base + 2 * m) row
    → RowMarked r looks' (Level (x.word + m)) (row_at words (x.base + 2 * m)) (row_at words' (x.base + 2 * m))
    → LevelsMarked r n x looks looks' words words'
level_added {r} {n} {x} {looks} {looks'} {words} {words'} size up m h row is here = record {
  raised = up;
  levels = λ l g. one_stays r looks' words words' (x.base + 2 * m) row fits is (λ j. Level (x.word + j))
      (λ j. x.base + 2 * j) (places_apart x.base) m refl here l;
  elsewhere = λ k away. ap (λ (ws : List ℕ). get_or ws k 0) is
      ∙ at_other words (x.base + 2 * m) row fits k (not_first k away) (not_second k away);
}
  where
    fits : x.base + 2 * m + 1 < length words
    fits = omega (arith, size, h)

    not_first : (k : ℕ) → (k < x.base) ⊎ (x.base + 2 * (n - 1) ≤ k) → ¬ (k ≡ x.base + 2 * m)
    not_first k (inl l) e = omega (arith, l, e)
    not_first k (inr l) e = omega (arith, l, e, h)

    not_second : (k : ℕ) → (k < x.base) ⊎ (x.base + 2 * (n - 1) ≤ k) → ¬ (k ≡ x.base + 2 * m + 1)
    not_second k (inl l) e = omega (arith, l, e)
    not_second k (inr l) e = omega (arith, l, e, h)

-- ---- nothing added

-- where neither of two calls added a bit, no word got a state
pub calm_then : {a b c : List ℕ} (p q t : Report) → t ≡ both_reports p q → (p.changed ≡ false → b ≡ a)
    → (q.changed ≡ false → c ≡ b) → t.changed ≡ false → c ≡ a
calm_then p q t is first second e =
    let none = or_neither p.changed q.changed (sym (ap (λ (r : Report). r.changed) is) ∙ e) in
    second none.1 ∙ first none.0
