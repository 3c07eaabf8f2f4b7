-- `write_sheet` meets its contract: the five parts of a sheet, one behind the other.
use native.Mathlib.Omega.{arith}
use Rattle.render.proofs.Left.{stored_as, stored_then}
use Rattle.render.proofs.Parts.{accepted_parts, accepted-length}
use Rattle.render.proofs.writer.write_sheet.Goals as goal

pub put_bytes-line-requires : goal.put_bytes-line-requires
put_bytes-line-requires c = omega (arith, accepted-length c.args.table.now)

pub write_values-second-requires : goal.write_values-second-requires
write_values-second-requires c = omega (arith, accepted-length c.args.table.now)

pub write_block-third-requires : goal.write_block-third-requires
write_block-third-requires c = omega (arith, accepted-length c.args.table.now)

pub write_block-fourth-requires : goal.write_block-fourth-requires
write_block-fourth-requires c = omega (arith, accepted-length c.args.table.now)

pub write_block-requires : goal.write_block-requires
write_block-requires c = omega (arith, accepted-length c.args.table.now)

pub returns : goal.returns
returns c =
    stored_as _ _ _ _ _ _ (accepted_parts c.args.table.now)
    (stored_then c.put_bytes-line.ensures
    (stored_then c.write_values-second.ensures
    (stored_then c.write_block-third.ensures (stored_then c.write_block-fourth.ensures c.write_block.ensures))))
