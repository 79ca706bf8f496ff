use Rattle.std.proofs.Common.{subst, List}
use Rattle.net_graph.specs.declared.search.Step.{Step}
use Rattle.net_graph.specs.Search.{IsLoopAt}
use Rattle.net_graph.proofs.CycleLemmas.{loop_is_cycle}
use Rattle.net_graph.proofs.OrderLemmas.{numbers_order}
use Rattle.net_graph.proofs.order.ranks.Goals as goal

pub returns-in-Some : goal.returns-in-Some
returns-in-Some c =
    let search = c.search_all.new.search in
    loop_is_cycle c.args.graph.now.starts.items c.args.graph.now.sources.items c.search_all.new.search.visits.items c.search_all.new.search.path.items c.search_all.new.search.found c.in-Some.node c.in_ok-loop_at-in-Some.field-0.items
    c.in_ok-node.ensures.search (rw c.in-Some.is at c.in_ok-node.ensures.cases)
    (subst (λ (path : List Step). IsLoopAt path c.in-Some.node c.in_ok-loop_at-in-Some.field-0.items) c.as_slice.ensures.value c.in_ok-loop_at-in-Some.ensures)

pub returns : goal.returns
returns c =
    let over = rw c.in-None.is at c.in_ok-node.ensures.cases in
    numbers_order c.args.graph.now.starts.items c.args.graph.now.sources.items c.search_all.new.search.visits.items c.search_all.new.search.path.items c.search_all.new.search.found c.in_ok-numbers-in-None.field-0.items
    c.in_ok-node.ensures.search over.0 over.1 (rw c.as_slice-in-None.ensures.value at c.in_ok-numbers-in-None.ensures)
