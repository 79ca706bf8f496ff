use Rattle.std.proofs.Common.{◌≡◌, sum_by, take}
use Rattle.net_core.specs.WellFormed.{cell_bytes}
use Rattle.net_core.proofs.limits.count_cell_bytes.Given as goal

abbrev pub invariant-loop-cell : goal.invariant-loop-cell
invariant-loop-cell l = l.total ≡ sum_by cell_bytes (take l.cell-index l.cells)
