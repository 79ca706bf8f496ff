use Rattle.std.proofs.Common.{◌≡◌, take, map, sum_by, codes}
use Rattle.vlog_check.specs.Cells.{pin_row}
use Rattle.vlog_check.specs.CellRows.{bits_with}
use Rattle.elab_design.specs.DesignCells.{parameter}
use Rattle.elab_design.specs.Limits.{carried}
use Rattle.elab_count.proofs.items.leaf_pins.Given as goal

abbrev pub invariant-loop-pin : goal.invariant-loop-pin
invariant-loop-pin l = carried l.bits ≡ carried (sum_by (bits_with (parameter l.inst.params (codes "AW") 0) (parameter l.inst.params (codes "DW") 0)) (map pin_row (take l.pin-index l.pin-items)))
