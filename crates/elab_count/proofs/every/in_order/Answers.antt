use Rattle.elab_count.proofs.PartLaws.{no_cycle, in_order}
use Rattle.elab_count.proofs.every.in_order.Goals as goal

pub sorted-requires : goal.sorted-requires
sorted-requires c nodes cycle = no_cycle c.args.modules.now.tree.now c.args.wanted.now c.in_ok-graph.graph c.in_ok-graph.ensures c.requires.ends nodes cycle

pub returns : goal.returns
returns c = in_order c.args.modules.now.tree.now c.args.wanted.now c.in_ok-graph.graph c.in_ok-graph.ensures c.in_ok-order.order.items c.in_ok-order.ensures
