use Rattle.std.proofs.Common.{length}
use Rattle.net_graph.proofs.StepLemmas.{IsCutting}
use Rattle.net_graph.proofs.components.join.Given as goal

abbrev pub invariant-loop-bounds : goal.invariant-loop-bounds
invariant-loop-bounds l = IsCutting l.place l.initial.bounds.items l.bounds.items

abbrev pub decreases-loop-bounds : goal.decreases-loop-bounds
decreases-loop-bounds l = length l.bounds.items
