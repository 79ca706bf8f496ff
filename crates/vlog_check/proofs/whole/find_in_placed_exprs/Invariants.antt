use Rattle.vlog_check.specs.FindingWidths.{FindsUndeclared}
use Rattle.vlog_check.specs.Found.{IsLeastFinding}
use Rattle.vlog_check.proofs.LeastLaws.{FindsBelow}
use Rattle.vlog_check.proofs.whole.find_in_placed_exprs.Given as goal

abbrev pub invariant-loop-e : goal.invariant-loop-e
invariant-loop-e l = IsLeastFinding (FindsBelow (λ k e g. FindsUndeclared l.names.module.now e g) l.given l.e-index) l.best
