use Rattle.std.proofs.Common.{subst}
use Rattle.net_graph.specs.Graph.{IsOrder}
use Rattle.elab_count.specs.Instances.{AreSorted}
use Rattle.elab_count.proofs.SortLaws.{is_sorting}
use Rattle.elab_count.proofs.every.sorted.Goals as goal

pub returns-in-Ranked : goal.returns-in-Ranked
returns-in-Ranked c =
    let graph = c.args.graph.now in
    let ranked = subst (IsOrder graph) c.in-Ranked.is c.in_ok-ranks.ensures in
    is_sorting graph c.in-Ranked.ranks.items c.in_ok-order-in-Ranked.order.items ranked.0 ranked.1 (subst (λ xs. AreSorted xs c.in_ok-order-in-Ranked.order.items) c.as_slice.ensures.value c.in_ok-order-in-Ranked.ensures)
