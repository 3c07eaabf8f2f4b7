-- `write_records` meets its contract, record by record.
use Rattle.table.specs.Table.{record_width}
use Rattle.render.proofs.Left.{left_all, left_room, left_next}
use Rattle.render.proofs.Sections.{line_next, lines_done}
use Rattle.render.proofs.record.write_records.Goals as goal

pub loop-i-init : goal.loop-i-init
loop-i-init g c = left_all _ _ _

pub write-place-requires : goal.write-place-requires
write-place-requires g c =
    let a = c.args in
    let v = c.loop-i in
    let x = c.record_at-record in
    let W = g.R.RenderedLine in
    let l = line_next W.line W.record_of record_width a.count a.section.now a.text.now a.at v.i v.text v.place
    v.invariant c.loop-i-test.true x.result (g.met.R.RenderedLine.from_bytes _ x.result x.ensures) in
    left_room _ _ _ _ _ (W.line x.result) _ l c.requires

pub loop-i-preserved : goal.loop-i-preserved
loop-i-preserved g c =
    let a = c.args in
    let v = c.loop-i in
    let x = c.record_at-record in
    let W = g.R.RenderedLine in
    let l = line_next W.line W.record_of record_width a.count a.section.now a.text.now a.at v.i v.text v.place
    v.invariant c.loop-i-test.true x.result (g.met.R.RenderedLine.from_bytes _ x.result x.ensures) in
    left_next _ _ _ _ _ _ _ l _ _ c.write-place.ensures

pub returns : goal.returns
returns g c =
    let a = c.args in
    let v = c.loop-i in
    let W = g.R.RenderedLine in
    lines_done W.line W.record_of record_width a.count a.section.now a.text.now a.at v.i v.text v.place v.invariant
    c.loop-i-test.false
