use Rattle.std.proofs.Common.{take}
use Rattle.vlog_check.specs.Found.{IsLeastFinding}
use Rattle.vlog_check.specs.FindingPins.{FindsParameter}
use Rattle.vlog_check.specs.Kinds.{AreSeen, kind_seen}
use Rattle.vlog_check.proofs.LeastLaws.{FindsBelow}
use Rattle.vlog_check.proofs.inst.find_in_params.Given as goal

abbrev pub invariant-loop-k : goal.invariant-loop-k
invariant-loop-k l = AreSeen l.seen (take l.k l.i.params) × IsLeastFinding (FindsBelow (FindsParameter l.i (kind_seen l.kind)) l.i.params l.k) l.best
