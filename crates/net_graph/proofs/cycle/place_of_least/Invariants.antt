use Rattle.std.proofs.Common.{◌≤◌, ◌<◌, ℕ, length, slice_index}
use Rattle.net_graph.proofs.cycle.place_of_least.Given as goal

abbrev pub invariant-loop-i : goal.invariant-loop-i
invariant-loop-i l = (l.least < length l.nodes) × ((k : ℕ) → k < l.i → slice_index l.nodes l.least ≤ slice_index l.nodes k)
