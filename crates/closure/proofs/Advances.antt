-- Rules one after the other: an advance and then another is an advance, and where neither added a bit both speak of
-- the same rows.
use Prim.Native.Nat.{◌<◌}
use native.Mathlib.Nat.{lt_trans}
use mathlib.Core.Path.{◌≡◌, refl, sym, subst, ◌∙◌}
use mathlib.Core.Bool.{Bool, true, false, ◌||◌, true≢false, false≢true}
use mathlib.Core.Logic.{⊎_elim}
use mathlib.Core.List.{List}
use borrow.Author.Tests.{not-true}
use Rattle.table.specs.Table.{Table}
use Rattle.table.proofs.Bools.{or_parts, or_neither}
use Rattle.circuit.specs.Logic.{Literal}
use Rattle.circuit.specs.Variables.{Var}
use Rattle.rows.specs.declared.row.Report.{Report}
use Rattle.rows.specs.Words.{both_reports, quiet}
use Rattle.closure.specs.Knowledge.{Knowledge, knowledge, Sized, total}
use Rattle.propagate.specs.Memory.{Memory, Stepped, failing}
use Rattle.closure.specs.KnowledgeIn.{KnowledgeIn, Clash}
use Rattle.closure.specs.Advance.{ForcedBy, Advance}

-- a step of the memory advances
abbrev pub Advances : Table → (Knowledge → Type 0) → Memory → Stepped → Type 0
Advances T Q M s = Advance T Q M s.memory s.report

-- both hold of the rows
abbrev pub Both : (Knowledge → Type 0) → (Knowledge → Type 0) → Knowledge → Type 0
Both P Q K = P K × Q K

module _ (T : Table) where
  -- another thing is so where it is quiet
  advance_when : {P Q : Knowledge → Type 0} {M N : Memory} {r : Report}
      → (r.changed ≡ false → r.fails ≡ false → Q (knowledge T M))
      → Advance T P M N r → Advance T Q M N r
  advance_when q a = record {
    sized = a.sized;
    grows_rows = a.grows_rows;
    grows_words = a.grows_words;
    same_rows_length = a.same_rows_length;
    beyond = a.beyond;
    same_words_length = a.same_words_length;
    sound = a.sound;
    clash = a.clash;
    unchanged = a.unchanged;
    quiet = q;
    more = a.more;
  }

  -- what is so where it is quiet, told another way
  pub advance_so : {P Q : Knowledge → Type 0} {M N : Memory} {r : Report} → (P (knowledge T M) → Q (knowledge T M))
      → Advance T P M N r → Advance T Q M N r
  advance_so f a = advance_when (λ c e. f (a.quiet c e)) a

  -- where it fails nothing has to be so
  pub advance_failed : {P Q : Knowledge → Type 0} {M N : Memory} {r : Report} → r.fails ≡ true → Advance T P M N r
      → Advance T Q M N r
  advance_failed f a = advance_when (λ c e. absurd (true≢false (sym f ∙ e))) a

  pub advance_then : {P Q : Knowledge → Type 0} {M N O : Memory} {r s : Report} → Advance T P M N r → Advance T Q N O s
      → Advance T (Both P Q) M O (both_reports r s)
  advance_then {P} {Q} {M} {N} {O} {r} {s} a b = record {
    sized = b.sized;
    grows_rows = λ k t e. b.grows_rows k t (a.grows_rows k t e);
    grows_words = λ k t e. b.grows_words k t (a.grows_words k t e);
    same_rows_length = b.same_rows_length ∙ a.same_rows_length;
    beyond = λ k l. b.beyond k l ∙ a.beyond k l;
    same_words_length = b.same_words_length ∙ a.same_words_length;
    sound = λ L i. b.sound L (a.sound L i);
    clash = λ f L i. ⊎_elim (λ e. a.clash e L i) (λ e. b.clash e L (a.sound L i)) (or_parts r.fails s.fails f);
    unchanged = λ c. let p = or_neither r.changed s.changed c in b.unchanged p.1 ∙ a.unchanged p.0;
    quiet = λ c f. let p = or_neither r.changed s.changed c in let e = or_neither r.fails s.fails f in
        (a.quiet p.0 e.0, subst (λ (m : Memory). Q (knowledge T m)) (a.unchanged p.0) (b.quiet p.1 e.1));
    more = λ c. grown r.changed s.changed refl refl c;
  }
    where
      grown : (p q : Bool) → r.changed ≡ p → s.changed ≡ q → p || q ≡ true → total M < total O
      grown true true e f c = lt_trans (a.more e) (b.more f)
      grown true false e f c = subst (λ (m : Memory). total M < total m) (sym (b.unchanged f)) (a.more e)
      grown false true e f c = subst (λ (m : Memory). total m < total O) (a.unchanged e) (b.more f)
      grown false false e f c = absurd (false≢true c)

  -- nothing is done, and it fails only where the set has a variable both ways
  pub advance_failing : (f : Bool) (M : Memory) → Sized T M
      → (f ≡ true → (P : List (Literal Var)) → KnowledgeIn T (ForcedBy T P) (knowledge T M) → Clash T (ForcedBy T P))
      → Advances T (λ K. f ≡ false) M (failing f M)
  advance_failing f M sized clash = record {
    sized = sized;
    grows_rows = λ k t e. e;
    grows_words = λ k t e. e;
    same_rows_length = refl;
    beyond = λ k l. refl;
    same_words_length = refl;
    sound = λ L i. i;
    clash = clash;
    unchanged = λ c. refl;
    quiet = λ c e. e;
    more = λ c. absurd (false≢true c);
  }

-- ---- quiet steps

-- nothing was added, and nothing is known both ways
pub quiet_parts : (r : Report) → quiet r ≡ true → (r.changed ≡ false) × (r.fails ≡ false)
quiet_parts r e = or_neither r.changed r.fails (not-true _ e)

-- what is then so of the rows as they were is so of them as they are
pub quiet_still : {T : Table} {Q : Knowledge → Type 0} {M N : Memory} {r : Report} → Advance T Q M N r → quiet r ≡ true
    → Q (knowledge T N)
quiet_still {T} {Q} {M} {N} {r} a e =
    let p = quiet_parts r e in subst (λ (m : Memory). Q (knowledge T m)) (sym (a.unchanged p.0)) (a.quiet p.0 p.1)
