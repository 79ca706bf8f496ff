use Rattle.std.proofs.Common.{◌≡◌, sum_by, take}
use Rattle.net_core.specs.WellFormed.{group_bytes}
use Rattle.net_core.proofs.limits.count_group_bytes.Given as goal

abbrev pub invariant-loop-group : goal.invariant-loop-group
invariant-loop-group l = l.total ≡ sum_by group_bytes (take l.group-index l.groups)
