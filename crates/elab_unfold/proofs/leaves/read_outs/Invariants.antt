use Rattle.std.proofs.Common.{◌≡◌, ℕ, map, take, filter}
use Rattle.std.specs.List.{flat_map}
use Rattle.vlog_check.specs.Cells.{pin_row}
use Rattle.vlog_check.specs.CellRows.{is_data_output}
use Rattle.elab_design.specs.Design.{Path, Bit}
use Rattle.elab_design.specs.DesignCells.{pin_targets}
use Rattle.elab_design.specs.Raw.{out_nets}
use Rattle.elab_unfold.specs.Places.{Fits}
use Rattle.elab_unfold.proofs.leaves.read_outs.Given as goal

abbrev pub invariant-loop-pin : goal.invariant-loop-pin
invariant-loop-pin l = (path : Path) (number : Bit → ℕ) → Fits (l.places.holder.now) path l.base number → l.outs ≡ out_nets number (flat_map (pin_targets (l.places.holder.now) path l.inst) (filter is_data_output (map pin_row (take l.pin-index l.pin-items))))
