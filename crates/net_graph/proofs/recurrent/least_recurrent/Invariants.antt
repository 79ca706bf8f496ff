use Rattle.std.proofs.Common.{slice_index}
use Rattle.net_graph.proofs.recurrent.least_recurrent.Given as goal

-- the first open node is the end
abbrev pub ghost-open : goal.ghost-open
ghost-open a = a.node

abbrev pub ghost-run : goal.ghost-run
ghost-run a = slice_index a.self.now.members.items 0
