use Rattle.std.proofs.Common.{None}
use Rattle.vlog_check.specs.FindingPins.{FindsConnected}
use Rattle.vlog_check.specs.Found.{IsLeastFinding}
use Rattle.vlog_check.proofs.LeastLaws.{FindsBelow}
use Rattle.vlog_check.proofs.whole.find_in_named_exprs.Given as goal

abbrev pub invariant-loop-conn : goal.invariant-loop-conn
invariant-loop-conn l = IsLeastFinding (FindsBelow (λ k c g. FindsConnected l.names.module.now None c.1 g) l.given l.conn-index) l.best
