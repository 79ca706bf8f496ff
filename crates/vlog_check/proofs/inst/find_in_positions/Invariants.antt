use Rattle.vlog_check.specs.Found.{IsLeastFinding}
use Rattle.vlog_check.specs.FindingPins.{FindsPlaced, port_at}
use Rattle.vlog_check.specs.Kinds.{kind_seen}
use Rattle.vlog_check.proofs.LeastLaws.{FindsBelow}
use Rattle.vlog_check.proofs.inst.find_in_positions.Given as goal

abbrev pub invariant-loop-k : goal.invariant-loop-k
invariant-loop-k l = IsLeastFinding (FindsBelow (λ k e g. FindsPlaced l.names.module.now l.i (kind_seen l.kind) k (port_at (kind_seen l.kind) k) e g) l.given l.k) l.best
