use Rattle.std.proofs.Common.{get_or, arith}
use Rattle.std.proofs.lemmas.Option.{slice_get-get_or}
use Rattle.net_graph.proofs.ReachLemmas.{marks_more}
use Rattle.net_graph.proofs.reach.mark_all.Goals as goal

pub mark-requires : goal.mark-requires
mark-requires c =
    let at = slice_get-get_or c.args.nodes.now c.loop-node.node-index 0 c.loop-node-test.true in
    omega (arith, c.requires (get_or c.args.nodes.now c.loop-node.node-index 0) (c.loop-node.node-index, at), c.loop-node.invariant.size)

pub loop-node-preserved : goal.loop-node-preserved
loop-node-preserved c =
    let at = slice_get-get_or c.args.nodes.now c.loop-node.node-index 0 c.loop-node-test.true in
    marks_more c.args.nodes.now c.loop-node.node-index (get_or c.args.nodes.now c.loop-node.node-index 0) c.args.marks.now.items c.loop-node.marks.items c.mark.new.marks.items c.args.list.now.items c.loop-node.list.items c.mark.new.list.items
    at (c.requires (get_or c.args.nodes.now c.loop-node.node-index 0) (c.loop-node.node-index, at)) c.loop-node.invariant c.in_ok-mark.ensures
