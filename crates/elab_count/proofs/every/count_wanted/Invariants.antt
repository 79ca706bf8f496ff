use Rattle.elab_count.specs.Progress.{AreCountedTo}
use Rattle.elab_count.proofs.every.count_wanted.Given as goal

abbrev pub invariant-loop-node : goal.invariant-loop-node
invariant-loop-node l = AreCountedTo l.modules.tree.now l.wanted l.order l.node-index l.table.items
