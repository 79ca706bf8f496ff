use Rattle.std.proofs.Common.{◌≡◌, take}
use Rattle.net_core.specs.Netlist.{numbers}
use Rattle.net_levels.proofs.calls.nets_of.Given as goal

abbrev pub invariant-loop-node : goal.invariant-loop-node
invariant-loop-node l = numbers l.nets ≡ take l.node-index l.nodes
