use Rattle.clock_sim.specs.Plan.{IsPlaced}
use Rattle.clock_sim.proofs.clocking.place_inputs.Given as goal

abbrev pub invariant-loop-i : goal.invariant-loop-i
invariant-loop-i l = IsPlaced l.inputs l.row l.i l.initial.values.items l.values.items
