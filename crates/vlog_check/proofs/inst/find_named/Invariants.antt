use Rattle.std.proofs.Common.{take}
use Rattle.vlog_check.specs.Found.{IsLeastFinding}
use Rattle.vlog_check.specs.FindingPins.{FindsNamed}
use Rattle.vlog_check.specs.Kinds.{AreSeen, kind_seen}
use Rattle.vlog_check.proofs.LeastLaws.{FindsBelow}
use Rattle.vlog_check.proofs.inst.find_named.Given as goal

abbrev pub invariant-loop-k : goal.invariant-loop-k
invariant-loop-k l = AreSeen l.seen (take l.k l.given) × IsLeastFinding (FindsBelow (FindsNamed l.names.module.now l.i (kind_seen l.kind) l.given) l.given l.k) l.best
