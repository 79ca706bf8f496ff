use Rattle.std.proofs.Common.{get_or, arith}
use Rattle.std.proofs.lemmas.Option.{slice_get-get_or}
use Rattle.net_graph.proofs.StepLemmas.{done_more}
use Rattle.net_graph.proofs.components.finish.Goals as goal

pub index_mut-requires : goal.index_mut-requires
index_mut-requires c =
    omega (
      arith,
      c.loop-node.stages.ok.0,
      c.loop-node.invariant.size,
      c.requires (get_or c.args.nodes.now c.loop-node.node-index 0) (c.loop-node.node-index, slice_get-get_or c.args.nodes.now c.loop-node.node-index 0 c.loop-node-test.true),
    )

pub loop-node-preserved : goal.loop-node-preserved
loop-node-preserved c =
    done_more c.args.nodes.now c.loop-node.node-index (get_or c.args.nodes.now c.loop-node.node-index 0) c.args.stages.now.items c.loop-node.stages.items
    (slice_get-get_or c.args.nodes.now c.loop-node.node-index 0 c.loop-node-test.true)
    (c.requires (get_or c.args.nodes.now c.loop-node.node-index 0) (c.loop-node.node-index, slice_get-get_or c.args.nodes.now c.loop-node.node-index 0 c.loop-node-test.true))
    c.loop-node.invariant
