use Rattle.std.proofs.Common.{take}
use Rattle.elab_scope.specs.Nets.{AreNetsOfAll}
use Rattle.elab_scope.proofs.nets.read_all_nets.Given as goal

abbrev pub invariant-loop-m : goal.invariant-loop-m
invariant-loop-m l = AreNetsOfAll (take l.m-index l.tree.modules) l.nets.items
