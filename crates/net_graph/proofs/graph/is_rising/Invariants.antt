use Rattle.std.proofs.Common.{ℕ, ◌<◌, ◌≤◌, ◌+◌, slice_index}
use Rattle.net_graph.proofs.graph.is_rising.Given as goal

abbrev pub invariant-loop-i : goal.invariant-loop-i
invariant-loop-i l = (k : ℕ) → k < l.i → slice_index l.starts k ≤ slice_index l.starts (k + 1)
