use Rattle.std.proofs.Common.{◌+◌, refl, arith, ap}
use Rattle.std.proofs.lemmas.Option.{slice_get_read}
use Rattle.clock_sim.proofs.BuildLemmas.{base_fits, rows_more}
use Rattle.clock_sim.proofs.build.push_rows.Goals as goal

pub overflow_add-base : goal.overflow_add-base
overflow_add-base c =
    let at = slice_get_read c.args.cells.now _ c.loop-cell.cell-index c.cell-item.result refl c.loop-cell-test.true c.cell-item.is in
    omega (arith, c.content_size-base.ensures, c.loop-cell.invariant.next_base, base_fits c.args.cells.now c.loop-cell.cell-index c.cell-item.result c.requires.allowed (omega (arith, c.loop-cell-test.true, c.requires.few)) at)

pub loop-cell-preserved : goal.loop-cell-preserved
loop-cell-preserved c =
    let at = slice_get_read c.args.cells.now _ c.loop-cell.cell-index c.cell-item.result refl c.loop-cell-test.true c.cell-item.is in
    rows_more c.args.cells.now c.loop-cell.cell-index c.cell-item.result c.loop-cell.places.items c.push_row.new.places.items c.loop-cell.rows.items c.push_row.new.rows.items
    c.loop-cell.base (c.loop-cell.base + c.content_size-base.result) at c.loop-cell.invariant
    c.in_ok-push_row.ensures.pins c.in_ok-push_row.ensures.row (ap (λ n. c.loop-cell.base + n) c.content_size-base.ensures)
