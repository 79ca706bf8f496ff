use Rattle.vlog_check.specs.Found.{IsLeastFinding}
use Rattle.vlog_check.specs.Design.{FindsEarly}
use Rattle.vlog_check.proofs.DesignLaws.{IsScopeBelow}
use Rattle.vlog_check.proofs.LeastLaws.{FindsBelow}
use Rattle.vlog_check.proofs.modules.read_scope.Given as goal

abbrev pub invariant-loop-k : goal.invariant-loop-k
invariant-loop-k l = IsScopeBelow l.tree.modules l.k l.modules l.all.items × IsLeastFinding (FindsBelow (FindsEarly l.tree.modules) l.tree.modules l.k) l.best
