use Rattle.std.proofs.Common.{◌≡◌, take}
use Rattle.net_core.specs.Lookup.{named_cells}
use Rattle.net_core.proofs.numbers.number_cells.Given as goal

abbrev pub invariant-loop-number : goal.invariant-loop-number
invariant-loop-number l = l.table ≡ named_cells (take l.number l.cells)
