use Rattle.std.proofs.Common.{◌≡◌, ℕ, ◌<◌, false, slice_get, Some}
use Rattle.flat_settle.specs.declared.raw.RawCell.{RawCell}
use Rattle.flat_settle.specs.Refusals.{is_constant}
use Rattle.flat_settle.proofs.keep.has_constant_clock.Given as goal

abbrev pub invariant-loop-cell : goal.invariant-loop-cell
invariant-loop-cell l = (c : ℕ) (cell : RawCell) → c < l.cell-index → slice_get l.cells c ≡ Some cell → is_constant cell.clock ≡ false
