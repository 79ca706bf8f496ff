use Rattle.std.proofs.Common.{◌≡◌, ℕ, ◌<◌, slice_get, Some, None}
use Rattle.net_core.specs.declared.parts.Cell.{Cell}
use Rattle.flat_settle.proofs.keep.first_clock.Given as goal

abbrev pub invariant-loop-cell : goal.invariant-loop-cell
invariant-loop-cell l = (c : ℕ) (cell : Cell) → c < l.cell-index → slice_get l.cells c ≡ Some cell → cell.clock ≡ None
