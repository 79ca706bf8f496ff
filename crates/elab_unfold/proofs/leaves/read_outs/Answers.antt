use Rattle.vlog_check.specs.CellRows.{is_data_output}
use Rattle.elab_design.specs.DesignCells.{pin_targets}
use Rattle.elab_unfold.proofs.LeafLaws.{outputs_step}
use Rattle.elab_unfold.proofs.leaves.read_outs.Goals as goal

pub loop-pin-preserved : goal.loop-pin-preserved
loop-pin-preserved c path number fits =
    outputs_step number (pin_targets c.args.places.now.holder.now path c.args.inst.now) is_data_output c.pins-pin-items.result.now c.loop-pin.pin-index _ c.loop-pin.outs c.push_output.new.out c.loop-pin-test.true (c.loop-pin.invariant path number fits)
    (c.in_ok-push_output.ensures path number fits)
