use Rattle.std.proofs.Common.{take}
use Rattle.std.specs.List.{flat_map}
use Rattle.flat_settle.specs.Refusals.{group_names}
use Rattle.flat_settle.specs.Naming.{AreSeen}
use Rattle.flat_settle.proofs.repeats.see_groups.Given as goal

abbrev pub invariant-loop-group : goal.invariant-loop-group
invariant-loop-group l = AreSeen l.seen (flat_map group_names (take l.group-index l.groups))
