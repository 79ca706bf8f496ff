use Rattle.std.proofs.Common.{◌≡◌, map, drop}
use Rattle.std.specs.List.{find}
use Rattle.vlog_check.specs.Cells.{pin_row}
use Rattle.elab_design.specs.DesignCells.{is_clock_pin}
use Rattle.elab_unfold.proofs.leaves.clock_pin.Given as goal

abbrev pub invariant-loop-pin : goal.invariant-loop-pin
invariant-loop-pin l = find is_clock_pin (map pin_row (drop l.pin-index l.pin-items)) ≡ find is_clock_pin (map pin_row l.pin-items)
