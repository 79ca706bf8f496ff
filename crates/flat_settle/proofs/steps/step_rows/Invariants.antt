use Rattle.flat_settle.specs.Tables.{AreSteps}
use Rattle.flat_settle.proofs.steps.step_rows.Given as goal

abbrev pub invariant-loop-cell : goal.invariant-loop-cell
invariant-loop-cell l = AreSteps l.clock l.cells l.cell-index l.fn.count l.rows.items
