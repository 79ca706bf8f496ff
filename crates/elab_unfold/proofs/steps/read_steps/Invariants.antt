use Rattle.std.proofs.Common.{take}
use Rattle.elab_unfold.specs.Steps.{AreSteps}
use Rattle.elab_unfold.proofs.steps.read_steps.Given as goal

abbrev pub invariant-loop-item : goal.invariant-loop-item
invariant-loop-item l = AreSteps l.modules.tree.now l.counts (take l.item-index l.m.items) l.steps.items
