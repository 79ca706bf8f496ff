use Rattle.std.proofs.Common.{◌≡◌, ◌<◌, ◌^◌, take}
use Rattle.net_core.specs.CellTable.{binary}
use Rattle.clock_sim.specs.Reading.{read_all}
use Rattle.clock_sim.proofs.evaluate.row_number.Given as goal

abbrev pub invariant-loop-pin : goal.invariant-loop-pin
invariant-loop-pin l = (l.value ≡ binary (read_all l.values (take l.pin-index l.pins))) × (l.value < 2 ^ l.pin-index)
