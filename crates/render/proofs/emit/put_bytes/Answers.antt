-- `put_bytes` meets its contract: what is copied into a part is stored there.
use Prim.Native.Nat.{◌+◌, ◌-◌}
use mathlib.Core.Path.{◌≡◌, refl, ap, ◌∙◌}
use native.Mathlib.Omega.{arith}
use lib.ListN.{length}
use lib.Seq.{sets}
use Rattle.reader.proofs.Stores.{part_stored}
use Rattle.render.proofs.emit.put_bytes.Goals as goal

pub returns : goal.returns
returns c =
    let t = c.args.text.now in
    let at = c.args.at in
    let b = c.args.bytes.now in
    let new = c.copy_from_slice.new.self in
    let same : new ≡ b = c.copy_from_slice.ensures.after in
    let width = at + length b - at in
    record {
      place = refl;
      text = part_stored new t at width (omega (arith, ap length same)) (omega (arith, c.requires))
          ∙ ap (sets t at) same;
    }
