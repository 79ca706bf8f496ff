use Rattle.clock_sim.specs.Plan.{AreRowsTo}
use Rattle.clock_sim.proofs.build.push_rows.Given as goal

abbrev pub invariant-loop-cell : goal.invariant-loop-cell
invariant-loop-cell l = AreRowsTo l.cells l.cell-index l.places.items l.rows.items l.base
