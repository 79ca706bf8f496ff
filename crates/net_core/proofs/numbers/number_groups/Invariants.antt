use Rattle.std.proofs.Common.{◌≡◌, take}
use Rattle.net_core.specs.Lookup.{named_groups}
use Rattle.net_core.proofs.numbers.number_groups.Given as goal

abbrev pub invariant-loop-number : goal.invariant-loop-number
invariant-loop-number l = l.table ≡ named_groups (take l.number l.groups)
