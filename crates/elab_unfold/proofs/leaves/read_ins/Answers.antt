use Rattle.vlog_check.specs.CellRows.{is_data_input}
use Rattle.elab_design.specs.DesignCells.{pin_sources}
use Rattle.elab_unfold.proofs.LeafLaws.{inputs_step}
use Rattle.elab_unfold.proofs.leaves.read_ins.Goals as goal

pub loop-pin-preserved : goal.loop-pin-preserved
loop-pin-preserved c path number fits =
    inputs_step number (pin_sources c.args.places.now.holder.now path c.args.inst.now) is_data_input c.pins-pin-items.result.now c.loop-pin.pin-index _ c.loop-pin.ins c.push_input.new.out c.loop-pin-test.true (c.loop-pin.invariant path number fits)
    (c.in_ok-push_input.ensures path number fits)
