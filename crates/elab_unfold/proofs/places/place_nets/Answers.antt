use Rattle.std.proofs.Common.{ap, arith}
use Rattle.elab_unfold.specs.Places.{rows_width}
use Rattle.elab_unfold.proofs.TableLaws.{place_step, first_step, first_room}
use Rattle.elab_unfold.proofs.places.place_nets.Goals as goal

pub overflow_cast-first : goal.overflow_cast-first
overflow_cast-first c =
    let room = first_room c.args.order.now c.loop-row.row-index _ c.loop-row.first c.range_width.result c.loop-row-test.true c.loop-row.invariant.first c.range_width.ensures.value in
    omega (arith, room, ap rows_width c.requires.order, c.requires.room)

pub overflow_add-first : goal.overflow_add-first
overflow_add-first c =
    let room = first_room c.args.order.now c.loop-row.row-index _ c.loop-row.first c.range_width.result c.loop-row-test.true c.loop-row.invariant.first c.range_width.ensures.value in
    omega (arith, room, ap rows_width c.requires.order, c.requires.room)

pub loop-row-preserved : goal.loop-row-preserved
loop-row-preserved c = record {
  first = first_step c.args.order.now c.loop-row.row-index _ c.loop-row.first c.range_width.result c.loop-row-test.true c.loop-row.invariant.first c.range_width.ensures.value;
  nets = place_step c.args.order.now c.loop-row.row-index _ c.loop-row.first c.loop-row.nets c.put.new.self c.loop-row-test.true c.loop-row.invariant.first c.loop-row.invariant.nets c.in_ok-put.ensures;
}
