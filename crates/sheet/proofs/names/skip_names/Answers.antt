-- `skip_names` meets its contract: a text begins with these bytes exactly when it is theirs and what is behind them.
use Prim.Native.Nat.{ℕ}
use mathlib.Core.Path.{◌≡◌, refl, sym, ap, ◌∙◌}
use mathlib.Core.Logic.{◌≢◌}
use mathlib.Core.List.{List, ◌++◌}
use Rattle.std.proofs.Common.{Bor, Option, None, Some, MatchOption}
use Rattle.std.proofs.lemmas.Bool.Decides.{Decides-eqb}
use Rattle.std.proofs.lemmas.Slice.Eq.{strip_prefix_is}
use Rattle.sheet.specs.Parse.{Parsed, got, broken, exactly}
use Rattle.sheet.specs.Reading.{passing}
use Rattle.sheet.proofs.Exact.{exact_bytes}
use Rattle.sheet.proofs.names.skip_names.Goals as goal

stripped : (text names : List ℕ) (r : Option (Bor (List ℕ)))
    → MatchOption r ((rest : List ℕ) → text ≢ names ++ rest) (λ x. text ≡ names ++ x.now)
    → passing tt r ≡ exactly names text
stripped text names (Some x) e = sym (ap (exactly names) e ∙ (exact_bytes names).complete tt x.now tt)
stripped text names None none = go (exactly names text) refl
  where
    go : (p : Parsed (Unit {0})) → exactly names text ≡ p → broken ≡ exactly names text
    go (got u rest) e = absurd (none rest ((exact_bytes names).sound text u rest e).1)
    go broken e = sym e

pub returns : goal.returns
returns c =
    let a = c.args in
    stripped a.text.now a.names.now c.strip_prefix.result
    (strip_prefix_is Decides-eqb a.text.now a.names.now c.strip_prefix.result c.strip_prefix.ensures.cases)
