use Rattle.std.proofs.Common.{take}
use Rattle.net_graph.specs.Components.{AreNoted}
use Rattle.net_graph.proofs.components.note_all.Given as goal

abbrev pub invariant-loop-node : goal.invariant-loop-node
invariant-loop-node l = AreNoted (take l.node-index l.nodes) l.fn.least l.best
