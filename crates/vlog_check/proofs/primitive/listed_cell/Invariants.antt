use Rattle.std.proofs.Common.{◌≡◌, map, drop}
use Rattle.vlog_check.specs.Scope.{value_of}
use Rattle.vlog_check.proofs.primitive.listed_cell.Given as goal

abbrev pub invariant-loop-cell : goal.invariant-loop-cell
invariant-loop-cell l = value_of (map (λ cell. (cell.0.now, cell.1)) (drop l.cell-index l.cell-items)) l.name ≡ value_of (map (λ cell. (cell.0.now, cell.1)) l.cell-items) l.name
