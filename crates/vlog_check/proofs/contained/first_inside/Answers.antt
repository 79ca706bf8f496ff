use Rattle.vlog_check.proofs.ContainedLaws.{none_inside, some_inside}
use Rattle.vlog_check.proofs.contained.first_inside.Goals as goal

pub returns-in-None : goal.returns-in-None
returns-in-None c = none_inside c.args.scope.now.tree.now c.in_ok-graph.graph c.in_ok-graph.ensures c.args.top (rw c.in-None.is at c.in_ok-least_recurrent.ensures)

pub returns : goal.returns
returns c = some_inside c.args.scope.now.tree.now c.in_ok-graph.graph c.in_ok-graph.ensures c.args.top c.in-Some.number (rw c.in-Some.is at c.in_ok-least_recurrent.ensures)
