use Rattle.std.proofs.Common.{◌+◌, [], get_or, subst, sym, arith}
use Rattle.std.proofs.lemmas.Option.{slice_get-get_or}
use Rattle.vlog_parse.specs.declared.tree.Dir.TheVariants.{Input}
use Rattle.vlog_check.specs.declared.primitive.CellPin.{CellPin}
use Rattle.vlog_check.specs.declared.primitive.Size.TheVariants.{One}
use Rattle.vlog_check.specs.Cells.{pins}
use Rattle.vlog_check.specs.Found.{IsLeastFinding}
use Rattle.vlog_check.specs.FindingPins.{FindsMissing}
use Rattle.vlog_check.specs.Scope.{OfCell, pin_names}
use Rattle.vlog_check.proofs.LeastLaws.{FindsBelow, least_start, least_more, least_all}
use Rattle.vlog_check.proofs.MissingLaws.{pin_at, pins_end}
use Rattle.vlog_check.proofs.missing.find_missing_of_cell.Goals as goal

pub loop-k-init : goal.loop-k-init
loop-k-init c = least_start (FindsMissing c.args.i.now (OfCell c.args.cell)) (pin_names (OfCell c.args.cell))

pub loop-k-preserved : goal.loop-k-preserved
loop-k-preserved c =
    let none : CellPin = record { name = record { ref_ptr = (0, 0); now = [] }; way = Input; size = One } in
    let ys = c.pins-pin-items.result.now in
    let own = get_or ys c.loop-k.k none in
    let at = pin_at ys (pins c.args.cell) c.loop-k.k own c.pins-pin-items.ensures (slice_get-get_or ys c.loop-k.k none c.loop-k-test.true) in
    subst (IsLeastFinding (FindsBelow (FindsMissing c.args.i.now (OfCell c.args.cell)) (pin_names (OfCell c.args.cell)) (c.loop-k.k + 1))) (sym c.keep_earlier.ensures)
    (least_more (FindsMissing c.args.i.now (OfCell c.args.cell)) (pin_names (OfCell c.args.cell)) c.loop-k.k own.name.now c.loop-k.best c.in_ok-found.found at c.loop-k.invariant (c.in_ok-found.ensures c.args.cell c.requires.cell))

pub returns : goal.returns
returns c = least_all (FindsMissing c.args.i.now (OfCell c.args.cell)) (pin_names (OfCell c.args.cell)) c.loop-k.k c.loop-k.best (omega (arith, pins_end c.pins-pin-items.result.now (pins c.args.cell) c.pins-pin-items.ensures)) c.loop-k.invariant
