use Rattle.std.proofs.Common.{slice_get, refl, arith, ap, sym, ◌∙◌, subst, List, Option}
use Rattle.std.proofs.lemmas.Option.{slice_get_read}
use Rattle.net_core.specs.declared.parts.NetId.{NetId}
use Rattle.net_core.specs.Tables.{AddsMarks, IsOn}
use Rattle.net_core.proofs.MarkLemmas.{cells_more, cells_all}
use Rattle.net_core.proofs.tables.mark_outputs.Goals as goal

pub mark_outs-requires : goal.mark_outs-requires
mark_outs-requires c = λ n (k, on).
    let at = slice_get_read c.args.cells.now _ c.loop-cell.cell-index c.cell-item.result refl c.loop-cell-test.true c.cell-item.is in
    omega (arith, c.requires n (c.loop-cell.cell-index, c.cell-item.result, k, record { at = at; on = sym (ap (λ outs. slice_get outs k) c.as_slice.ensures) ∙ on }), c.loop-cell.invariant.size)

pub loop-cell-preserved : goal.loop-cell-preserved
loop-cell-preserved c =
    let at = slice_get_read c.args.cells.now _ c.loop-cell.cell-index c.cell-item.result refl c.loop-cell-test.true c.cell-item.is in
    cells_more c.args.cells.now c.loop-cell.cell-index c.cell-item.result c.args.marks.now.items c.loop-cell.marks.items c.mark_outs.new.marks.items at c.loop-cell.invariant
    (subst (λ (outs : List (Option NetId)). AddsMarks c.loop-cell.marks.items c.mark_outs.new.marks.items (IsOn outs)) c.as_slice.ensures c.mark_outs.ensures)

pub returns : goal.returns
returns c = cells_all c.args.cells.now c.args.marks.now.items c.loop-cell.marks.items c.loop-cell.cell-index c.loop-cell-test.false c.loop-cell.invariant
