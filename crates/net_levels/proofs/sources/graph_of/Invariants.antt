use Rattle.net_levels.proofs.SourceLemmas.{AreRowsBelow}
use Rattle.net_levels.proofs.sources.graph_of.Given as goal

abbrev pub invariant-loop-net : goal.invariant-loop-net
invariant-loop-net l = AreRowsBelow l.flat l.net l.starts.items l.sources.items
