use Rattle.std.proofs.Common.{List, Option, refl, subst}
use Rattle.std.proofs.lemmas.Option.{slice_get_read}
use Rattle.net_core.specs.declared.parts.NetId.{NetId}
use Rattle.flat_settle.specs.Tables.{Appends, IsSomewhere, SharedPinHas, SharedHas}
use Rattle.flat_settle.proofs.AppendLemmas.{items_more, items_all}
use Rattle.flat_settle.proofs.owners.push_shared.Goals as goal

pub loop-number-preserved : goal.loop-number-preserved
loop-number-preserved c =
    let at = slice_get_read c.args.cells.now _ c.loop-number.number c.index-cells-number.result refl c.loop-number-test.true c.index-cells-number.is in
    items_more (SharedHas c.args.table.now c.args.inputs.now) c.args.cells.now c.loop-number.number c.index-cells-number.result
    (SharedHas c.args.table.now c.args.inputs.now c.loop-number.number c.index-cells-number.result) c.args.list.now c.loop-number.list c.push_shared_outs.new.list at (λ n p. p) (λ n p. p)
    c.loop-number.invariant
    (subst (λ (outs : List (Option NetId)). Appends c.loop-number.list c.push_shared_outs.new.list (IsSomewhere (SharedPinHas c.args.table.now c.args.inputs.now c.loop-number.number) outs)) c.as_slice.ensures c.in_ok-push_shared_outs.ensures)

pub returns : goal.returns
returns c = items_all (SharedHas c.args.table.now c.args.inputs.now) c.args.cells.now c.loop-number.number c.args.list.now c.loop-number.list c.loop-number-test.false c.loop-number.invariant
