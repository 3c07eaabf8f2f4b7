-- `write_refused` meets its contract: the names and the word, then the refusal's number.
use Prim.Native.Nat.{ℕ}
use mathlib.Core.Path.{ap}
use mathlib.Core.List.{[], ◌∷◌}
use Rattle.sheet.specs.Form.{line}
use Rattle.render.proofs.Left.{stored_as, stored_then}
use Rattle.report.proofs.answer.write_refused.Goals as goal

pub returns : goal.returns
returns c =
    stored_then c.put_bytes-at.ensures
    (stored_as _ _ _ _ _ _ (ap (λ (n : ℕ). line (n ∷ [])) c.from-number.ensures) c.write_values.ensures)
