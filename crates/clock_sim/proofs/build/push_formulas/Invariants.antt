use Rattle.clock_sim.specs.Plan.{AreFormulasTo}
use Rattle.clock_sim.proofs.build.push_formulas.Given as goal

abbrev pub invariant-loop-slot : goal.invariant-loop-slot
invariant-loop-slot l = AreFormulasTo l.pins l.rows l.slots l.slot-index l.places.items l.formulas.items
