use Rattle.std.proofs.Common.{arith}
use Rattle.std.proofs.lemmas.List.{get_or_read}
use Rattle.net_graph.proofs.ReachLemmas.{row_edges}
use Rattle.net_graph.proofs.reach.sources_of.Goals as goal

pub returns : goal.returns
returns c =
    row_edges c.args.graph.now c.deref.result.now c.args.node c.index.result.now c.index-2.result.now
    (get_or_read c.args.graph.now.starts.items _ _ (omega (arith, c.requires)) c.index.ensures 0)
    (get_or_read c.args.graph.now.starts.items _ _ (omega (arith, c.requires)) c.index-2.ensures 0)
    c.deref.ensures.value
