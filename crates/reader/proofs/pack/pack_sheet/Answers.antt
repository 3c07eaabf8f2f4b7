-- `pack_sheet` meets its contract: the four parts, one behind the other, are the packed sheet.
use Prim.Native.Nat.{ℕ, ◌+◌, ◌-◌, ◌*◌, ◌≤◌}
use mathlib.Core.Path.{◌≡◌, ap, ◌∙◌}
use mathlib.Core.List.{List}
use native.Mathlib.Omega.{arith}
use lib.ListN.{length}
use borrow.Rule.Slice.PartMut.{put_mid}
use lib.Seq.{sets, length-sets}
use Rattle.table.specs.Table.{header_width, record_width}
use Rattle.sheet.specs.Form.{concat_map}
use Rattle.sheet.specs.Reading.{sheet_of_lines}
use Rattle.reader.specs.Read.{pack_counts, pack_step, pack_state, pack_node}
use Rattle.reader.proofs.PackedSheet.{parts_stored, states-length, steps_length, nodes_length}
use Rattle.reader.proofs.Stores.{part_stored, part_sets}
use Rattle.reader.proofs.pack.pack_sheet.Goals as goal

pub returns : goal.returns
returns c =
    let l = c.args.packed.now in
    let v = sheet_of_lines c.args.form.now in
    let r = c.requires.in_range in
    let second = header_width + record_width * v.counts.states in
    let third = second + record_width * v.counts.steps in
    let counts = pack_counts v.counts in
    let states = concat_map pack_state v.states in
    let steps = concat_map pack_step v.steps in
    let nodes = concat_map pack_node v.nodes in
    let new = c.copy_from_slice.new.self in
    let same : new ≡ counts = c.copy_from_slice.ensures.after ∙ c.counts_bytes.ensures in
    let room : 0 + header_width ≤ length l = omega (arith, c.requires.counts_in_bounds) in
    let l1 = put_mid 0 header_width l new in
    let front : l1 ≡ sets l 0 counts = part_stored new l 0 header_width (ap length same) room ∙ ap (sets l 0) same in
    let n1 : length l1 ≡ length l = ap length front ∙ length-sets l 0 counts in
    let l2 = put_mid header_width (second - header_width) l1 c.pack_lines.new.packed in
    let a : l2 ≡ sets l1 header_width states =
    part_sets states l1 header_width (second - header_width) c.pack_lines.ensures (omega (arith, states-length v r))
    (omega (arith, c.requires.counts_in_bounds)) in
    let n2 : length l2 ≡ length l = ap length a ∙ length-sets l1 header_width states ∙ n1 in
    let l3 = put_mid second (third - second) l2 c.pack_lines-2.new.packed in
    let b : l3 ≡ sets l2 second steps =
    part_sets steps l2 second (third - second) c.pack_lines-2.ensures (omega (arith, steps_length v r))
    (omega (arith, c.requires.counts_in_bounds)) in
    let n3 : length l3 ≡ length l = ap length b ∙ length-sets l2 second steps ∙ n2 in
    part_sets nodes l3 third (length l3 - third) c.pack_lines-3.ensures
    (omega (arith, nodes_length v r, c.requires.counts_in_bounds)) (omega (arith, c.requires.counts_in_bounds))
    ∙ ap (λ (p : List ℕ). sets p third nodes) b
    ∙ ap (λ (p : List ℕ). sets (sets p second steps) third nodes) a
    ∙ ap (λ (p : List ℕ). sets (sets (sets p header_width states) second steps) third nodes) front
    ∙ parts_stored v r l
