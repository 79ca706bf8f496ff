use Rattle.clock_sim.specs.Plan.{IsAdvancedTo}
use Rattle.clock_sim.proofs.clocking.advance.Given as goal

abbrev pub invariant-loop-row : goal.invariant-loop-row
invariant-loop-row l = IsAdvancedTo l.values l.pins l.registers l.row-index l.initial.stored l.stored
