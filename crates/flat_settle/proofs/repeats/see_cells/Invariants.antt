use Rattle.std.proofs.Common.{◌+◌, ◌≤◌, List, ◌++◌, take, length}
use Rattle.flat_settle.specs.Refusals.{Named, cell_names}
use Rattle.flat_settle.specs.Naming.{AreSeen}
use Rattle.flat_settle.proofs.repeats.see_cells.Given as goal

abbrev pub invariant-loop-cell : goal.invariant-loop-cell
invariant-loop-cell l =
    (length l.seen.fronts ≤ length l.initial.seen.fronts + l.cell-index)
    × ((names : List Named) → AreSeen l.initial.seen names → AreSeen l.seen (names ++ cell_names (take l.cell-index l.cells)))
