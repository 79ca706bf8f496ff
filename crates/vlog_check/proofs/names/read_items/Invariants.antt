use Rattle.std.proofs.Common.{take}
use Rattle.vlog_check.specs.Found.{IsLeastFinding}
use Rattle.vlog_check.specs.FindingNames.{FindsSecond}
use Rattle.vlog_check.specs.Names.{IsPast}
use Rattle.vlog_check.proofs.LeastLaws.{FindsBelow}
use Rattle.vlog_check.proofs.names.read_items.Given as goal

abbrev pub invariant-loop-item : goal.invariant-loop-item
invariant-loop-item l = IsPast l.past (take l.item-index l.m.items) × IsLeastFinding (FindsBelow (FindsSecond l.m) l.m.items l.item-index) l.best
