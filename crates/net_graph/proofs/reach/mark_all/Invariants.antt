use Rattle.net_graph.specs.Reach.{Marks}
use Rattle.net_graph.proofs.reach.mark_all.Given as goal

abbrev pub invariant-loop-node : goal.invariant-loop-node
invariant-loop-node l = Marks l.nodes l.node-index l.initial.marks.items l.marks.items l.initial.list.items l.list.items
