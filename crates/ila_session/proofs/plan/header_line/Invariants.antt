use Rattle.std.proofs.Common.{◌≡◌, map, length, take}
use Rattle.std.specs.Prelude.{filter}
use Rattle.std.specs.List.{join_with_byte}
use Rattle.net_core.specs.declared.parts.Port.{Port}
use Rattle.stim_read.specs.Ports.{port_name}
use Rattle.ila_session.proofs.plan.header_line.Given as goal

abbrev pub invariant-loop-port : goal.invariant-loop-port
invariant-loop-port l = record {
  count : l.words ≡ length (filter (λ (port : Port). port.output) (take l.port-index l.port-items));
  joined : l.line.items ≡ join_with_byte 32 (map (port_name l.flat) (filter (λ (port : Port). port.output) (take l.port-index l.port-items)));
}
