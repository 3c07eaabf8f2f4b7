-- `write_values` meets its contract: the first value and a space, and then the line of the others.
use Prim.Native.Nat.{ℕ, ◌-◌, ◌≤◌}
use mathlib.Core.Path.{◌≡◌, sym, ap, ◌∙◌}
use mathlib.Core.List.{List, [], ◌∷◌}
use native.Mathlib.Omega.{arith}
use lib.ListN.{length, length-drop, take, drop, get_or}
use lib.Seq.{take-length}
use Rattle.sheet.specs.Form.{space, ended, line}
use Rattle.render.specs.Stored.{Stored}
use Rattle.render.proofs.Left.{stored_as, stored_then}
use Rattle.render.proofs.write_line.+write_values.Goals as goal

line_stored : (values : List ℕ) → 2 ≤ length values → {before mid after : List ℕ} {at place next : ℕ}
    → Stored before at (ended space (get_or values 0 0)) mid place → Stored mid place (line (drop 1 values)) after next
    → Stored before at (line values) after next
unfolding line
line_stored [] h s t = absurd (omega arith)
line_stored (x ∷ []) h s t = absurd (omega arith)
line_stored (x ∷ (y ∷ ys)) h s t = stored_then s t

pub returns-in-len1-up : goal.returns-in-len1-up
returns-in-len1-up t c =
    let values = c.args.values.now in
    let rest : take (length values - 1) (drop 1 values) ≡ drop 1 values =
    ap (λ (n : ℕ). take n (drop 1 values)) (sym (length-drop 1 values)) ∙ take-length (drop 1 values) in
    line_stored values c.in-len1-up.len_at_least c.put_field-next.ensures
    (stored_as _ _ _ _ _ _ (ap line rest) c.write_values.ensures)
