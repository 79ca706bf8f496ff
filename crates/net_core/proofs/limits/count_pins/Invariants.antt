use Rattle.std.proofs.Common.{◌≡◌, sum_by, take}
use Rattle.net_core.specs.WellFormed.{pin_count}
use Rattle.net_core.proofs.limits.count_pins.Given as goal

abbrev pub invariant-loop-cell : goal.invariant-loop-cell
invariant-loop-cell l = l.total ≡ sum_by pin_count (take l.cell-index l.cells)
