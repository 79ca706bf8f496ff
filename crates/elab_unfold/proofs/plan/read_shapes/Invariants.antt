use Rattle.std.proofs.Common.{◌≡◌, length}
use Rattle.elab_unfold.specs.Steps.{AreShapes}
use Rattle.elab_unfold.proofs.plan.read_shapes.Given as goal

abbrev pub invariant-loop-k : goal.invariant-loop-k
invariant-loop-k l = (length l.shapes.items ≡ l.k) × AreShapes l.modules.tree.now l.counts l.k l.shapes.items
