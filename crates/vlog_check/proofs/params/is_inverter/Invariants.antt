use Rattle.std.proofs.Common.{◌≡◌, map, drop}
use Rattle.vlog_check.specs.Cells.{is_inverter, pin_row}
use Rattle.vlog_check.proofs.params.is_inverter.Given as goal

abbrev pub invariant-loop-row : goal.invariant-loop-row
invariant-loop-row l = is_inverter (map pin_row (drop l.row-index l.rows)) l.name ≡ is_inverter (map pin_row l.rows) l.name
