use Rattle.std.proofs.Common.{◌∙◌}
use Rattle.net_graph.specs.Graph.{Leads, node_count}
use Rattle.net_levels.proofs.LevelLemmas.{levels_from, no_cycle_from, one_run_from, fault_from}
use Rattle.net_levels.proofs.calls.levels.Goals as goal

pub returns-in-Ranked-clause-levels : goal.returns-in-Ranked-clause-levels
returns-in-Ranked-clause-levels c =
    levels_from c.args.flat.now (Leads c.in_ok-graph.graph) c.in_ok-graph.ensures.edges _ c.in-Ranked.numbers.items (node_count c.in_ok-graph.graph) c.from_numbers.ensures c.in_ok-graph.ensures.size
    (rw c.in-Ranked.is at c.in_ok-numbers.ensures)

pub returns-in-Ranked-clause-no_cycle : goal.returns-in-Ranked-clause-no_cycle
returns-in-Ranked-clause-no_cycle c =
    let order = rw c.in-Ranked.is at c.in_ok-numbers.ensures in
    no_cycle_from c.args.flat.now (Leads c.in_ok-graph.graph) c.in_ok-graph.ensures.edges c.in-Ranked.numbers.items order.1

pub returns-in-Ranked-clause-one_run : goal.returns-in-Ranked-clause-one_run
returns-in-Ranked-clause-one_run c =
    let order = rw c.in-Ranked.is at c.in_ok-numbers.ensures in
    one_run_from c.args.flat.now (Leads c.in_ok-graph.graph) c.in_ok-graph.ensures.edges c.cells.ensures.kept c.in-Ranked.numbers.items order.1

pub returns-clause-fault : goal.returns-clause-fault
returns-clause-fault c =
    fault_from c.args.flat.now (Leads c.in_ok-graph.graph) c.in_ok-graph.ensures.edges c.in_ok-nets_of-in-Cycle.field-0 c.in-Cycle.nodes.items
    (c.in_ok-nets_of-in-Cycle.ensures ∙ c.as_slice-in-Cycle.ensures.value) (rw c.in-Cycle.is at c.in_ok-numbers.ensures)
