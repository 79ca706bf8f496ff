use Rattle.flat_settle.proofs.RowLemmas.{AreRowsBelow}
use Rattle.flat_settle.proofs.steps.graph_of.Given as goal

abbrev pub invariant-loop-row : goal.invariant-loop-row
invariant-loop-row l = AreRowsBelow l.rows l.row-index l.starts.items l.sources.items
