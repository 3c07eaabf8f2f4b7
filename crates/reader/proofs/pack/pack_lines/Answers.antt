-- `pack_lines` meets its contract, line by line.
use Prim.Native.Nat.{ℕ, ◌+◌, ◌-◌, ◌*◌, ◌≤◌}
use mathlib.Core.Path.{◌≡◌, sym, ap, ap₂, ◌∙◌}
use native.Mathlib.Omega.{arith}
use borrow.Rule.Slice.PartMut.{put_mid}
use lib.ListN.{length, drop, length-drop}
use Rattle.std.proofs.Common.{length-take-le}
use lib.Seq.{sets}
use Rattle.table.specs.Table.{record_width}
use Rattle.reader.proofs.Packing.{lines_stored, stored_next, stored_broken, stored-all}
use Rattle.reader.proofs.Stores.{part_stored}
use Rattle.reader.proofs.pack.pack_lines.Goals as goal

pub returns-in_default : goal.returns-in_default
returns-in_default g c =
    let i = c.loop-j in
    let at = record_width * i.j in
    stored_broken g.R.Line.parser g.R.PackedRecord.packed i.packed at (c.args.count - i.j) i.rest.now
    (sym c.in_default.ensures) ∙ i.invariant

pub loop-j-preserved : goal.loop-j-preserved
loop-j-preserved g c =
    let i = c.loop-j in
    let p = g.R.Line.parser in
    let f = g.R.PackedRecord.packed in
    let x = c.in-Some.line.0 in
    let rest = c.in-Some.line.1.now in
    let at = record_width * i.j in
    let width = at + record_width - at in
    let left = c.args.count - i.j in
    let new = c.copy_from_slice.new.self in
    let after = put_mid at width i.packed new in
    let room : at + width ≤ length i.packed = omega (arith, c.requires, i.auto.packed, c.loop-j-test.true) in
    let long : length new ≡ width =
    c.copy_from_slice.ensures.len ∙ length-take-le width (drop at i.packed) (omega (arith, length-drop at i.packed)) in
    let same : new ≡ f x = c.copy_from_slice.ensures.after ∙ c.bytes.ensures in
    let stored : after ≡ sets i.packed at (f x) =
    part_stored new i.packed at width long room ∙ ap (sets i.packed at) same in
    let next : record_width * (i.j + 1) ≡ at + length (f x) = omega (arith, long, ap length same) in
    let fewer : c.args.count - (i.j + 1) ≡ left - 1 = omega arith in
    ap₂ (λ (to n : ℕ). lines_stored p f after to n rest) next fewer
    ∙ stored_next p f i.packed at left i.rest.now (omega (arith, c.loop-j-test.true)) x rest
    (sym c.in-Some.ensures) after stored
    ∙ i.invariant

pub returns : goal.returns
returns g c =
    let i = c.loop-j in
    let at = record_width * i.j in
    stored-all g.R.Line.parser g.R.PackedRecord.packed i.packed at (c.args.count - i.j) i.rest.now (omega arith)
    ∙ i.invariant
