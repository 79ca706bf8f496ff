use Rattle.vlog_check.specs.Found.{IsLeastFinding}
use Rattle.vlog_check.specs.Design.{FindsLate}
use Rattle.vlog_check.proofs.LeastLaws.{FindsBelow}
use Rattle.vlog_check.proofs.design.find_in_modules.Given as goal

abbrev pub invariant-loop-names : goal.invariant-loop-names
invariant-loop-names l = IsLeastFinding (FindsBelow (FindsLate l.scope.tree.now) l.scope.tree.now.modules l.names-index) l.best
