use Rattle.std.proofs.Common.{◌≡◌, ◌+◌, take}
use Rattle.net_core.specs.Netlist.{net_count}
use Rattle.net_core.proofs.bit_names.bit_name.Given as goal

abbrev pub invariant-loop-group : goal.invariant-loop-group
invariant-loop-group l = net_count (take l.group-index l.groups) + l.place ≡ l.fn.net
