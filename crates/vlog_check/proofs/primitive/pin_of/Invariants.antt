use Rattle.std.proofs.Common.{◌≡◌, map, drop}
use Rattle.std.specs.List.{find}
use Rattle.std.specs.Str.{bytes_eq}
use Rattle.vlog_check.specs.Cells.{PinRow, pin_row}
use Rattle.vlog_check.proofs.primitive.pin_of.Given as goal

abbrev pub invariant-loop-pin : goal.invariant-loop-pin
invariant-loop-pin l = find (λ (row : PinRow). bytes_eq l.name row.name) (map pin_row (drop l.pin-index l.pin-items)) ≡ find (λ (row : PinRow). bytes_eq l.name row.name) (map pin_row l.pin-items)
