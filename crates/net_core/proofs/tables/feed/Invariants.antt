use Rattle.net_core.specs.Tables.{Writes}
use Rattle.net_core.proofs.MarkLemmas.{Below, OutAt}
use Rattle.net_core.proofs.tables.feed.Given as goal

abbrev pub invariant-loop-out : goal.invariant-loop-out
invariant-loop-out l = Writes l.initial.sources.items l.sources.items (Below (OutAt l.outs) l.out-index) l.source
