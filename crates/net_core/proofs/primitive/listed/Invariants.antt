use Rattle.std.proofs.Common.{◌≡◌, map, drop}
use Rattle.std.specs.Map.{lookup}
use Rattle.std.specs.Str.{bytes_eq}
use Rattle.net_core.proofs.primitive.listed.Given as goal

abbrev pub invariant-loop-cell : goal.invariant-loop-cell
invariant-loop-cell l = lookup (bytes_eq l.name) (map (λ cell. (cell.0.now, cell.1)) (drop l.cell-index l.cell-items)) ≡ lookup (bytes_eq l.name) (map (λ cell. (cell.0.now, cell.1)) l.cell-items)
