use Rattle.std.proofs.Common.{get_or, None}
use Rattle.std.proofs.lemmas.Option.{slice_get-get_or}
use Rattle.flat_settle.specs.Tables.{SharedPinHas}
use Rattle.flat_settle.proofs.AppendLemmas.{items_more, items_all}
use Rattle.flat_settle.proofs.owners.push_shared_outs.Goals as goal

pub loop-pin-preserved : goal.loop-pin-preserved
loop-pin-preserved c =
    let at = slice_get-get_or c.args.outs.now c.loop-pin.pin None c.loop-pin-test.true in
    items_more (SharedPinHas c.args.table.now c.args.inputs.now c.args.cell) c.args.outs.now c.loop-pin.pin (get_or c.args.outs.now c.loop-pin.pin None)
    (SharedPinHas c.args.table.now c.args.inputs.now c.args.cell c.loop-pin.pin (get_or c.args.outs.now c.loop-pin.pin None)) c.args.list.now c.loop-pin.list c.push_shared_pin.new.list at (λ n p. p) (λ n p. p)
    c.loop-pin.invariant c.in_ok-push_shared_pin.ensures

pub returns : goal.returns
returns c = items_all (SharedPinHas c.args.table.now c.args.inputs.now c.args.cell) c.args.outs.now c.loop-pin.pin c.args.list.now c.loop-pin.list c.loop-pin-test.false c.loop-pin.invariant
