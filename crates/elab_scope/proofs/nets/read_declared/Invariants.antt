use Rattle.std.proofs.Common.{take}
use Rattle.elab_scope.specs.Nets.{AreDeclared}
use Rattle.elab_scope.proofs.nets.read_declared.Given as goal

abbrev pub invariant-loop-item : goal.invariant-loop-item
invariant-loop-item l = AreDeclared (take l.item-index l.m.items) l.declared
