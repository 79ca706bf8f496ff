use Rattle.flat_settle.proofs.RowLemmas.{AreRowsBelow}
use Rattle.elab_count.specs.Instances.{contained_rows}
use Rattle.elab_count.proofs.graph.instance_graph.Given as goal

abbrev pub invariant-loop-k : goal.invariant-loop-k
invariant-loop-k l = AreRowsBelow (contained_rows l.modules.tree.now l.modules.tree.now.modules l.wanted) l.k l.starts.items l.sources.items
