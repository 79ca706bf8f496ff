use Rattle.std.proofs.Common.{◌≡◌, Some, map, take, slice_get}
use Rattle.net_core.specs.Netlist.{numbers}
use Rattle.net_core.specs.WellFormed.{net_names}
use Rattle.net_core.proofs.places.net_names.Given as goal

abbrev pub invariant-loop-net : goal.invariant-loop-net
invariant-loop-net l = map Some l.names ≡ map (slice_get (net_names l.groups)) (numbers (take l.net-index l.nets))
