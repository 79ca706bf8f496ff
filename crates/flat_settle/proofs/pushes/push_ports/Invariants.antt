use Rattle.net_core.proofs.MarkLemmas.{Below}
use Rattle.flat_settle.specs.Tables.{Appends, HasAt, PortHas}
use Rattle.flat_settle.proofs.pushes.push_ports.Given as goal

abbrev pub invariant-loop-port : goal.invariant-loop-port
invariant-loop-port l = Appends l.initial.list l.list (Below (HasAt (PortHas l.groups l.output) l.ports) l.port-index)
