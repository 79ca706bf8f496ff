use Rattle.std.proofs.Common.{◌-◌, length}
use Rattle.net_graph.proofs.ReachLemmas.{IsClosing}
use Rattle.net_graph.proofs.reach.reaching.Given as goal

abbrev pub invariant-loop-at : goal.invariant-loop-at
invariant-loop-at l = IsClosing l.graph l.ends l.marks.items l.list.items l.at

abbrev pub decreases-loop-at : goal.decreases-loop-at
decreases-loop-at l = length l.marks.items - l.at
