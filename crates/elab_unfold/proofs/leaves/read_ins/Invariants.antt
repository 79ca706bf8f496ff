use Rattle.std.proofs.Common.{◌≡◌, ℕ, map, take, filter}
use Rattle.std.specs.List.{flat_map}
use Rattle.vlog_check.specs.Cells.{pin_row}
use Rattle.vlog_check.specs.CellRows.{is_data_input}
use Rattle.elab_design.specs.Design.{Path, Bit}
use Rattle.elab_design.specs.DesignCells.{pin_sources}
use Rattle.elab_design.specs.Raw.{pin}
use Rattle.elab_unfold.specs.Places.{Fits}
use Rattle.elab_unfold.proofs.leaves.read_ins.Given as goal

abbrev pub invariant-loop-pin : goal.invariant-loop-pin
invariant-loop-pin l = (path : Path) (number : Bit → ℕ) → Fits (l.places.holder.now) path l.base number → l.ins ≡ map (pin number) (flat_map (pin_sources (l.places.holder.now) path l.inst) (filter is_data_input (map pin_row (take l.pin-index l.pin-items))))
