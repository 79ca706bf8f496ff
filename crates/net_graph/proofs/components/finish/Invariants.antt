use Rattle.std.proofs.Common.{take}
use Rattle.net_graph.specs.Components.{AreDone}
use Rattle.net_graph.proofs.components.finish.Given as goal

abbrev pub invariant-loop-node : goal.invariant-loop-node
invariant-loop-node l = AreDone (take l.node-index l.nodes) l.initial.stages.items l.stages.items
