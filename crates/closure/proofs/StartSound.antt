-- The initial states: what the rows of K and of the root add to each other there is forced, and where none of them
-- may be kept the set fails.
use Prim.Native.Nat.{ℕ}
use mathlib.Core.Path.{◌≡◌, refl, sym, ap, ◌∙◌}
use mathlib.Core.Bool.{Bool, true, false, false≢true}
use mathlib.Core.List.Memᴰ
use mathlib.Core.List.{Memᴰ}
use Rattle.sets.specs.Member.{member}
use Rattle.sets.proofs.Laws.{member-zero, member_inside}
use Rattle.table.specs.Table.{Table}
use Rattle.table.specs.Facts.{Wellformed}
use Rattle.ctl.specs.Rule.{root_index}
use Rattle.ctl.specs.Kept.{Initial}
use Rattle.circuit.specs.Logic.{Literal, pos, neg}
use Rattle.circuit.specs.Variables.{Var, kept, value}
use Rattle.circuit.specs.Clauses.{Clause, initials, clauses}
use Rattle.circuit.proofs.Lists.{each_map}
use Rattle.circuit.proofs.Clauses.{in_initials, start_in, root_in}
use Rattle.rows.specs.declared.row.Row.{Row}
use Rattle.rows.specs.Row.{only}
use Rattle.rows.specs.Words.{SmallRow}
use Rattle.rows.specs.Rules.{open_starts, start_kept, start_root}
use Rattle.rows.proofs.RowLaws.{without-true, only-true, and-true, without_small}
use Rattle.closure.specs.Rest.{initial_set}
use Rattle.closure.specs.KnowledgeIn.{RowIn, Clash}
use Rattle.closure.proofs.InitialSet.{initial_true, initial_small}
use Rattle.closure.proofs.Forced.{ClauseClosed}
use Rattle.closure.proofs.SetsIn.{set-cond, row_in}
use Rattle.closure.proofs.KeptSound.{then_in, unless_in}

module _ (T : Table) (wf : Wellformed T) (S : Literal Var → Type 0) (closed : (C : Clause) → Memᴰ C (clauses T)
    → ClauseClosed S C) where
  -- the only initial state that may yet be kept
  last_start : (s : ℕ) → Initial T s → ((t : ℕ) → Initial T t → ¬ (t ≡ s) → S (neg (kept t))) → S (pos (kept s))
  last_start s i others = closed _ (start_in T) (pos (kept s)) (Memᴰ.map (λ s. pos (kept s)) ((in_initials T s).1 i))
      (each_map _ (λ s. pos (kept s)) (initials T) (λ t m other.
      others t ((in_initials T t).0 m) (λ e. other (ap (λ (s : ℕ). pos (kept s)) e))))

  module _ (k : Row) (small : SmallRow k) (in-k : RowIn T S kept k) where
    -- an initial state that is not open
    shut : (s : ℕ) → Initial T s → member (open_starts (initial_set T) k) s ≡ false → S (neg (kept s))
    shut s i none = go (member k.no s) refl
      where
        start : member (initial_set T) s ≡ true
        start = (initial_true T s).1 i

        go : (b : Bool) → member k.no s ≡ b → S (neg (kept s))
        go true f = (in-k false s f).1
        go false f = absurd (false≢true
            (sym none ∙ (without-true (initial_set T) k.no s small.1).1
            (member_inside 32 _ s (initial_small T wf) start, start, f)))

    -- the last initial state left is kept, and one where the root is false is not
    pub start_kept_in : (r : Row) → RowIn T S (value T (root_index T)) r
        → RowIn T S kept (start_kept (initial_set T) k r)
    start_kept_in r in-r = row_in T S kept _
        (set-cond _ left (λ b s m.
        let i = (initial_true T s).0 ((without-true (initial_set T) k.no s small.1).0 m).1 in
        (i.0, last_start s i (λ t j other. shut t j (not_left b s m t other (member left t) refl)))))
        (λ s m.
        let c = (and-true r.no (initial_set T) s).0 m in
        let i = (initial_true T s).0 c.1 in
        (i.0, unless_in S _ _ (closed _ (root_in T s i)) (in-r false s c.0).1))
      where
        left : ℕ
        left = open_starts (initial_set T) k

        not_left : only left ≡ true → (s : ℕ) → member left s ≡ true → (t : ℕ) → ¬ (t ≡ s) → (b : Bool)
            → member left t ≡ b → member left t ≡ false
        not_left one s m t other true e =
            let c = (only-true left (without_small _ _ (initial_small T wf))).0 one in absurd
            (other (c.2 t e ∙ sym (c.2 s m)))
        not_left one s m t other false e = e

    -- a kept initial state has the root
    pub start_root_in : RowIn T S (value T (root_index T)) (start_root (initial_set T) k)
    start_root_in = row_in T S _ _
        (λ s m.
        let c = (and-true k.yes (initial_set T) s).0 m in
        let i = (initial_true T s).0 c.1 in
        (i.0, then_in S _ _ (closed _ (root_in T s i)) (in-k true s c.0).1))
        (λ s m. absurd (false≢true (sym (member-zero s) ∙ m)))

    -- where no initial state may be kept, K of one of them is in the set both ways
    pub start_clash : open_starts (initial_set T) k ≡ 0 → Clash T S
    start_clash e =
        let none : (s : ℕ) → member (open_starts (initial_set T) k) s ≡ false =
        λ s. ap (λ (x : ℕ). member x s) e ∙ member-zero s in
        let i = wf.some_initial in
        (kept i.0, last_start i.0 (i.1, i.2) (λ t j other. shut t j (none t)), shut i.0 (i.1, i.2) (none i.0))
