use Rattle.std.proofs.Common.{take}
use Rattle.vlog_check.specs.Found.{IsLeastFinding}
use Rattle.vlog_check.specs.FindingNames.{FindsSecondPort}
use Rattle.vlog_check.specs.Names.{IsNumbering}
use Rattle.vlog_check.proofs.LeastLaws.{FindsBelow}
use Rattle.vlog_check.proofs.names.read_header.Given as goal

abbrev pub invariant-loop-k : goal.invariant-loop-k
invariant-loop-k l = IsNumbering l.numbers (take l.k l.m.ports) × IsLeastFinding (FindsBelow (FindsSecondPort l.m) l.m.ports l.k) l.best
