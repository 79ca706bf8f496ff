use Rattle.net_graph.proofs.components.Split.turn.Given as goal

abbrev pub ghost-leave : goal.ghost-leave
ghost-leave g a = g.end

abbrev pub ghost-settle : goal.ghost-settle
ghost-settle g a = g.end
