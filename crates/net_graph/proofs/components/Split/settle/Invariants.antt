use Rattle.net_graph.proofs.components.Split.settle.Given as goal

abbrev pub ghost-open : goal.ghost-open
ghost-open g a = g.end
