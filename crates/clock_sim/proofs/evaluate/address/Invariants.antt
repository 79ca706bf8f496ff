use Rattle.std.proofs.Common.{◌≡◌, ◌<◌, ◌^◌, ◌-◌, drop, reverse, length}
use Rattle.net_core.specs.CellTable.{binary}
use Rattle.clock_sim.specs.Reading.{read_all}
use Rattle.clock_sim.proofs.evaluate.address.Given as goal

abbrev pub invariant-loop-pin : goal.invariant-loop-pin
invariant-loop-pin l = (l.value ≡ binary (reverse (read_all l.values (drop l.pin l.pins)))) × (l.value < 2 ^ (length l.pins - l.pin))
