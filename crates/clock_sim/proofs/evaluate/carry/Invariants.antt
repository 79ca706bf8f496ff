use Rattle.std.proofs.Common.{◌≡◌}
use Rattle.net_core.specs.CellTable.{carry}
use Rattle.clock_sim.specs.Reading.{read_all}
use Rattle.clock_sim.proofs.evaluate.carry.Given as goal

abbrev pub invariant-loop-below : goal.invariant-loop-below
invariant-loop-below l = l.carried ≡ carry (read_all l.values l.pins) l.below
