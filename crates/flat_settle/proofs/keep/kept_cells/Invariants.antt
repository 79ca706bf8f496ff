use Rattle.std.proofs.Common.{◌≡◌, map, filter}
use Rattle.flat_settle.specs.Raw.{flat_cell}
use Rattle.flat_settle.specs.Tables.{stays}
use Rattle.flat_settle.proofs.keep.kept_cells.Given as goal

abbrev pub invariant-loop-cell : goal.invariant-loop-cell
invariant-loop-cell l = l.kept.items ≡ map flat_cell (filter (stays l.driven) l.yielded)
