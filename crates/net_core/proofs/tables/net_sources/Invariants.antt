use Rattle.net_core.proofs.SourceLemmas.{SourcesBelow}
use Rattle.net_core.proofs.tables.net_sources.Given as goal

abbrev pub invariant-loop-cell : goal.invariant-loop-cell
invariant-loop-cell l = SourcesBelow l.cells l.cell-index l.fn.count l.sources.items
