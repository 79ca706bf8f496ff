use Rattle.std.proofs.Common.{◌≡◌}
use Rattle.clock_sim.specs.Plan.{base_of, IsStartTo}
use Rattle.clock_sim.proofs.build.start_stored.Given as goal

abbrev pub invariant-loop-cell : goal.invariant-loop-cell
invariant-loop-cell l = (l.base ≡ base_of l.cells l.cell-index) × IsStartTo l.cells l.cell-index l.stored
