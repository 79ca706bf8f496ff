use Rattle.std.proofs.Common.{ℕ, ◌<◌, ◌+◌, slice_index}
use Rattle.net_graph.proofs.graph.are_nodes.Given as goal

abbrev pub invariant-loop-source : goal.invariant-loop-source
invariant-loop-source l = (k : ℕ) → k < l.source-index → slice_index l.sources k + 1 < l.starts
