use Rattle.std.proofs.Common.{◌≡◌, map, drop}
use Rattle.std.specs.List.{find}
use Rattle.std.specs.Str.{bytes_eq}
use Rattle.net_core.specs.Primitives.{PortRow, port_row}
use Rattle.net_core.proofs.primitive.port_named.Given as goal

abbrev pub invariant-loop-port : goal.invariant-loop-port
invariant-loop-port l = find (λ (row : PortRow). bytes_eq l.name row.name) (map port_row (drop l.port-index l.port-items)) ≡ find (λ (row : PortRow). bytes_eq l.name row.name) (map port_row l.port-items)
