use Rattle.std.proofs.Common.{take}
use Rattle.std.specs.List.{flat_map}
use Rattle.vlog_parse.specs.Leaves.{leaves}
use Rattle.vlog_check.specs.Names.{IsReading}
use Rattle.vlog_check.proofs.expr.+gather.Given as goal

abbrev pub decreases-gather : goal.decreases-gather
decreases-gather l = goal.size-gather l

abbrev pub invariant-loop-part : goal.invariant-loop-part
invariant-loop-part l = IsReading l.names.module.now (flat_map leaves (take l.part-index l.part-items)) l.all
