use Rattle.vlog_check.specs.Found.{IsLeastFinding}
use Rattle.vlog_check.specs.FindingNames.{FindsNoDirection}
use Rattle.vlog_check.proofs.LeastLaws.{FindsBelow}
use Rattle.vlog_check.proofs.design.find_in_header.Given as goal

abbrev pub invariant-loop-k : goal.invariant-loop-k
invariant-loop-k l = IsLeastFinding (FindsBelow (FindsNoDirection l.names.module.now) l.names.module.now.ports l.k) l.best
