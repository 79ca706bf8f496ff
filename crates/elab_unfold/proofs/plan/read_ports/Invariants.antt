use Rattle.std.proofs.Common.{◌≡◌, map, take}
use Rattle.elab_unfold.specs.Shapes.{port_seen, port_entry}
use Rattle.elab_unfold.proofs.plan.read_ports.Given as goal

abbrev pub invariant-loop-name : goal.invariant-loop-name
invariant-loop-name l = map port_seen l.ports.items ≡ map (port_entry l.m) (take l.name-index l.m.ports)
