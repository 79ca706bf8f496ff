use Rattle.std.proofs.Common.{get_or}
use Rattle.std.proofs.lemmas.Option.{slice_get-get_or}
use Rattle.net_graph.proofs.StepLemmas.{noted_more}
use Rattle.net_graph.proofs.components.note_all.Goals as goal

pub loop-node-preserved : goal.loop-node-preserved
loop-node-preserved c =
    noted_more c.args.nodes.now c.loop-node.node-index (get_or c.args.nodes.now c.loop-node.node-index 0) c.args.least c.loop-node.best c.note-best.result
    (slice_get-get_or c.args.nodes.now c.loop-node.node-index 0 c.loop-node-test.true) c.loop-node.invariant c.note-best.ensures
